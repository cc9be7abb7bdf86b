-- InitHeap meets its stay.
use Rattle.psx_flow.proofs.Kit.{◌≡◌, ℕ, suc, ◌+◌, ◌-◌, ◌*◌, ◌%◌, ◌^◌, ◌<◌, ◌≤◌, [], ◌∷◌, length, false, refl, sym, ap, ◌∙◌, subst, arith, Memory, word, put_word, Run, Goal, start}
use Rattle.std.proofs.Common.{Bool, ◌/◌, eq-eqb, ne_eqb}
use Rattle.std.specs.Prelude.{nat_lt, if◌then◌else◌}
use Rattle.psx_base.specs.KernelState.{KernelState}
use Rattle.psx_cpu.specs.Words.{truth}
use Rattle.psx_flow.specs.Told.{ports}
use Rattle.kern_layout.specs.HeapTable.{IsEntry}
use Rattle.kern_layout.specs.Valid.{Valid, HeapFits}
use Rattle.kern_layout.proofs.Blocks.{put_other}
use Rattle.kern_layout.proofs.MemoryStored.{word_stored}
use Rattle.kern_layout.proofs.ReadingsKept.{entry_place}
use Rattle.abs_kernel.proofs.Heaped.{valid_heaped}
use Rattle.abs_kernel.specs.Stay.{Stay}
use Rattle.abs_kernel.specs.Answered.{registers_of, answered}
use Rattle.abs_kernel.specs.UserBytes.{bad_pointer}
use Rattle.abs_kernel.specs.Heap.{Blocks, with_blocks}
use Rattle.abs_kernel.specs.InitHeap.{base_of, size_of, new_heap, sets_heap, init_heap}
use Rattle.kern_stay.specs.Room.{room}
use Rattle.kern_stay.specs.Shared.{tree, tested_there}
use Rattle.kern_stay.specs.declared.places.TheConstants.{BAD_POINTER}
use Rattle.kern_stay.specs.Doors.{Holds, Through, Serves, called_with, begun, most_heap_steps}
use Rattle.kern_stay.proofs.RoomLeft.{room_is_left}
use Rattle.kern_stay.proofs.RoomGiven.{KnowsRoom, knows_room, true_then, false_then}
use Rattle.kern_stay.proofs.Holding.{holds_variable}
use Rattle.kern_stay.proofs.Ending.{Left, left_all}
use Rattle.kern_stay.proofs.Looping.{Turning, FromLoop, looped, leaves, stops}
use Rattle.kern_stay.proofs.Tested.{fine, left_tested, left_untested}
use Rattle.kern_heap.specs.Own.{own}
use Rattle.kern_heap.specs.declared.places.TheConstants.{INIT_HEAP, ROOM, ALLOT, RELEASE, FIND, JOIN}
use Rattle.kern_heap.specs.declared.allot.TheConstants.{ALLOT_NODES}
use Rattle.kern_heap.specs.declared.release.TheConstants.{RELEASE_NODES}
use Rattle.kern_heap.specs.declared.find.TheConstants.{FIND_NODES}
use Rattle.kern_heap.specs.declared.join.TheConstants.{JOIN_NODES}
use Rattle.kern_heap.specs.declared.a39_init_heap.TheConstants.{NODES}
use Rattle.kern_heap.proofs.HeapLists.{Fit}
use Rattle.kern_heap.proofs.HeapHeld.{heap_fit}
use Rattle.kern_heap.proofs.TableHeld.{at_entry, puts, Table, table, held}
use Rattle.kern_heap.proofs.Joining.{not_0}
use Rattle.kern_heap.proofs.OwnCalls.{C}
use Rattle.kern_heap.proofs.TableStores.{first_emptied, filled, one_filled}

know : KnowsRoom ROOM C
know = knows_room ROOM ((ALLOT, tree ALLOT_NODES) ∷ (RELEASE, tree RELEASE_NODES) ∷ (FIND, tree FIND_NODES) ∷ (JOIN, tree JOIN_NODES) ∷ tested_there)

rest_fits : (y : ℕ × Bool) (ys : Blocks) → Fit (y ∷ ys) → Fit ys
rest_fits y ys f = let k = f.few in let l = f.small in record { few = omega (arith, k); sized = f.sized.1; small = omega (arith, l) }

-- ---- base and size

the_base : (p : ℕ) → p < 2 ^ 32 → (p + 7) % 2 ^ 32 / 2 ^ 3 * 2 ^ 3 % 2 ^ 32 ≡ base_of p
the_base p small = omega (arith, small)

-- the size with no more than the rounding, and with more
no_size : (p n : ℕ) → p < 2 ^ 32 → n < (base_of p + 2 ^ 32 - p) % 2 ^ 32 → size_of p n ≡ 0
no_size p n small lt = omega (arith, small, lt)

a_size : (p n : ℕ) → p < 2 ^ 32 → n < 2 ^ 32 → (base_of p + 2 ^ 32 - p) % 2 ^ 32 ≤ n → (n + 2 ^ 32 - (base_of p + 2 ^ 32 - p) % 2 ^ 32) % 2 ^ 32 / 2 ^ 3 * 2 ^ 3 % 2 ^ 32 ≡ size_of p n
a_size p n small few le = omega (arith, small, few, le)

-- ---- the loop over the blocks that were

record Head (stay : Stay) (s : KernelState) (m : Memory) (base size most k : ℕ) (e : Run) : Type 0 where
  blocks : Blocks
  count : length blocks ≡ k
  table : Table s m e.bytes blocks
  fit : Fit blocks
  within : e.steps + 11 * k ≤ 6000
  quiet : ports e.seen ≡ []
  r2 : e.regs.r2 ≡ 0
  r6 : e.regs.r6 ≡ size
  r8 : e.regs.r8 ≡ base
  r9 : e.regs.r9 ≡ word e.bytes 0xEA40
  r12 : e.regs.r12 ≡ word e.bytes 0xEA44
  r14 : e.regs.r14 ≡ 0x10000

module _ (stay : Stay) (s : KernelState) (valid : Valid s) (m : Memory) (holds : Holds s m) (base size most : ℕ) (even : base % 8 ≡ 0) (enough : most_heap_steps ≤ most)
    (left : Left most_heap_steps stay (answered (record s { heap = new_heap base size }) 0) most) where
  abbrev G : ℕ → Goal
  G to e = Through stay most_heap_steps to e

  abbrev Inv : ℕ → Goal
  Inv k e = Head stay s m base size most k e

  -- a heap without blocks
  none_fits : (b : ℕ) → b % 8 ≡ 0 → HeapFits (record { base = b; blocks = [] })
  none_fits b al = record { base = al; few = omega arith; sizes = λ k d lt. absurd (omega (arith, lt)); joined = tt; bytes = refl }

  abbrev emptied_state : KernelState
  emptied_state = record s { heap = record { base = base; blocks = [] } }

  record Based (n : Memory) : Type 0 where
    there : Holds emptied_state (put_word n 0xEA24 base)
    same : (a : ℕ) → a % 4 ≡ 0 → (a ≡ 0xEA24 → ⊥) → word (put_word n 0xEA24 base) a ≡ word n a

  based : (n : Memory) → Table s m n [] → Based n
  based n t =
      let u : KernelState = with_blocks s [] in
      let valid_u : Valid u = valid_heaped s u.heap valid (none_fits s.heap.base valid.heap.base) in
      let as_held : Holds u n = held s valid m n [] holds t in
      record {
        there = holds_variable u valid_u n as_held 0x24 base s.next s.random s.token s.errno base (valid_heaped s (record { base = base; blocks = [] }) valid (none_fits base even)) refl (omega arith) refl;
        same = λ a al ne. word_stored n 0xEA24 base a refl al ∙ put_other (word n) 0xEA24 base a ne;
      }

  valid_based : Valid emptied_state
  valid_based = valid_heaped s (record { base = base; blocks = [] }) valid (none_fits base even)

  module _ (k : ℕ) (e : Run) (h : Inv k e) where
    at_end : h.blocks ≡ [] → Turning C (tree NODES) G Inv k e
    at_end z =
        let few = h.within in
        let t : Table s m e.bytes [] = subst (λ bs. Table s m e.bytes bs) z h.table in
        let w : ℕ → ℕ = word e.bytes in
        let f : ℕ = e.regs.r12 in
        let jf : IsEntry f = subst IsEntry (sym h.r12) t.heap.spare.0 in
        let ft = entry_place f jf in
        let b = based e.bytes t in
        let o0 = at_entry f 0 f jf (omega arith) refl (omega arith) in
        let o4 = at_entry f 4 (f + 4) jf (omega arith) refl refl in
        let o8 = at_entry f 8 (f + 8) jf (omega arith) refl refl in
        let spare : f ≡ word (put_word e.bytes 0xEA24 base) 0xEA44 = h.r12 ∙ sym (b.same 0xEA44 refl (λ q. absurd (omega (arith, q)))) in
        let link : word (put_word e.bytes 0xEA24 base) f ≡ w f = b.same f ft.2 (λ q. let y = ft.1 in omega (arith, q, y)) in
        record {
          leave = λ eq. rw (o0.here, o0.sort, o0.place, h.r14, h.r8) (
            λ some.
                let ne : size ≡ 0 → ⊥ = λ q. some (h.r6 ∙ q) in
                let t2 = one_filled emptied_state (put_word e.bytes 0xEA24 base) f size b.there refl spare in
                let end : Holds (with_blocks emptied_state ((size, false) ∷ [])) (puts (put_word e.bytes 0xEA24 base) (filled w f e.regs.r6)) =
                subst (λ y. Holds (with_blocks emptied_state ((size, false) ∷ [])) (puts (put_word e.bytes 0xEA24 base) ((f + 4, y) ∷ (f + 8, 0) ∷ (f, 0) ∷ (0xEA40, f) ∷ (0xEA44, w f) ∷ []))) (sym h.r6)
                (subst (λ y. Holds (with_blocks emptied_state ((size, false) ∷ [])) (puts (put_word e.bytes 0xEA24 base) ((f + 4, size) ∷ (f + 8, 0) ∷ (f, 0) ∷ (0xEA40, f) ∷ (0xEA44, y) ∷ []))) link
                (held emptied_state valid_based (put_word e.bytes 0xEA24 base) _ ((size, false) ∷ []) b.there t2)) in
                let is : record s { heap = new_heap base size } ≡ with_blocks emptied_state ((size, false) ∷ []) = (λ i. record s { heap = record { base = base; blocks = if ne_eqb size 0 ne i then [] else (size, false) ∷ [] } }) in
                rw (o4.here, o4.sort, o4.place) (rw (o8.here, o8.sort, o8.place) (rw (o0.here, o0.sort, o0.place) (
                leaves stay (answered (record s { heap = new_heap base size }) 0) most (with_blocks emptied_state ((size, false) ∷ [])) _ left h.quiet ((λ i. answered (is i) (sym h.r2 i))) end (omega (arith, few, enough))))),
            λ none.
                let is : record s { heap = new_heap base size } ≡ emptied_state = (λ i. record s { heap = record { base = base; blocks = if eq-eqb size 0 (sym h.r6 ∙ none) i then [] else (size, false) ∷ [] } }) in
                leaves stay (answered (record s { heap = new_heap base size }) 0) most emptied_state _ left h.quiet ((λ i. answered (is i) (sym h.r2 i))) b.there (omega (arith, few, enough)),
          );
          again = λ ne. absurd (ne (h.r9 ∙ t.heap.blocks));
        }

    at_block : (y : ℕ × Bool) (ys : Blocks) → h.blocks ≡ y ∷ ys → Turning C (tree NODES) G Inv k e
    at_block y ys z =
        let few = h.within in
        let count : suc (length ys) ≡ k = sym (ap length z) ∙ h.count in
        let t : Table s m e.bytes (y ∷ ys) = subst (λ bs. Table s m e.bytes bs) z h.table in
        let fit : Fit (y ∷ ys) = subst Fit z h.fit in
        let x : ℕ = e.regs.r9 in
        let ix : IsEntry x = subst IsEntry (sym h.r9) t.heap.blocks.0 in
        let g = first_emptied s m e.bytes y ys x t fit h.r9 in
        let o0 = at_entry x 0 x ix (omega arith) refl (omega arith) in
        let o4 = at_entry x 4 (x + 4) ix (omega arith) refl refl in
        record {
          leave = λ eq. absurd (not_0 x ix eq);
          again = λ ne. rw (o0.here, o0.sort, o0.place) (rw (o0.here, o0.sort, o0.place) (rw (o4.here, o4.sort, o4.place) (rw (h.r14, h.r12) (
            k - 1,
            omega (arith, count),
            record {
              blocks = ys;
              count = omega (arith, count);
              table = g.table;
              fit = rest_fits y ys fit;
              within = omega (arith, few, count);
              quiet = h.quiet;
              r2 = h.r2;
              r6 = h.r6;
              r8 = h.r8;
              r9 = sym g.first;
              r12 = sym g.spare;
              r14 = refl;
            },
          ))));
        }

  turn : (k : ℕ) (e : Run) → Inv k e → Turning C (tree NODES) G Inv k e
  turn k e h = by h.blocks refl
    where
      by : (l : Blocks) → h.blocks ≡ l → Turning C (tree NODES) G Inv k e
      by [] z = at_end k e h z
      by (y ∷ ys) z = at_block k e h y ys z

  -- from where the loop is reached
  loops : (e : Run) → e.bytes ≡ m → e.steps ≤ 200 → ports e.seen ≡ [] → e.regs.r2 ≡ 0 → e.regs.r6 ≡ size → e.regs.r8 ≡ base → e.regs.r9 ≡ word e.bytes 0xEA40 → e.regs.r12 ≡ word e.bytes 0xEA44 → e.regs.r14 ≡ 0x10000 → FromLoop C (tree NODES) G e
  loops e same few quiet r2 r6 r8 r9 r12 r14 =
      looped C know.fair (tree NODES) G Inv turn (length s.heap.blocks) e record {
        blocks = s.heap.blocks;
        count = refl;
        table = subst (λ n. Table s m n s.heap.blocks) (sym same) (table s m holds);
        fit = heap_fit s.heap valid.heap;
        within = (let f = valid.heap.few in omega (arith, f, few));
        quiet = quiet;
        r2 = r2;
        r6 = r6;
        r8 = r8;
        r9 = r9;
        r12 = r12;
        r14 = r14;
      }

-- ---- the call

-- where the base is known, and how many bytes are asked for
module _ (s : KernelState) (valid : Valid s) (m : Memory) (holds : Holds s m) (p n : ℕ) (small : p < 2 ^ 32) where
  abbrev base : ℕ
  base = base_of p

  abbrev size : ℕ
  size = size_of p n

  abbrev stay : Stay
  stay = sets_heap base size s

  abbrev rest : Stay
  rest = answered (record s { heap = new_heap base size }) 0

  base_small : base < 2 ^ 32
  base_small = omega arith

  refused : (v : ℕ) → v ≡ size → (truth (nat_lt (room base) v) ≡ 0 → ⊥) → (e : Run) → Holds s e.bytes → ports e.seen ≡ [] → e.regs.r8 ≡ (base + room base) % 2 ^ 32 → e.steps ≤ 200 → Through stay most_heap_steps BAD_POINTER e
  refused v is bad e there quiet r8 few =
      let lt = true_then (room base) v bad in
      let l = room_is_left base base_small in
      let r = left_untested stay s size (room base) base rest most_heap_steps (omega (arith, lt, is)) (fine base (room base) base_small (omega arith)) l.bad (left_all stay) in
      let w = l.within in
      let at : base + room base ≡ e.regs.r8 = omega (arith, r8, w) in
      stops stay (bad_pointer s (base + room base)) (most_heap_steps + 128 * (room base + 1)) s e r quiet (ap (bad_pointer s) at) there (omega (arith, few))

  accepted : (v : ℕ) → v ≡ size → truth (nat_lt (room base) v) ≡ 0 → (e : Run) → e.bytes ≡ m → ports e.seen ≡ [] → e.steps ≤ 200 → e.regs.r2 ≡ 0 → e.regs.r6 ≡ v → e.regs.r8 ≡ base
      → e.regs.r9 ≡ word e.bytes 0xEA40 → e.regs.r12 ≡ word e.bytes 0xEA44 → e.regs.r14 ≡ 0x10000 → FromLoop C (tree NODES) (λ to e. Through stay most_heap_steps to e) e
  accepted v is good e same quiet few r2 r6 r8 r9 r12 r14 =
      let le = false_then (room base) v good in
      let l = left_tested stay s size base rest most_heap_steps (fine base size base_small (omega (arith, le, is))) (left_all stay) in
      loops stay s valid m holds base size (most_heap_steps + 128 * size) (omega arith) (omega arith) l e same few quiet r2 (r6 ∙ is) r8 r9 r12 r14

pub serves : Serves own most_heap_steps init_heap INIT_HEAP (tree NODES)
serves s d z m h =
    let p : ℕ = (registers_of s).r4 in
    let n : ℕ = (registers_of s).r5 in
    let small : p < 2 ^ 32 = h.words 4 in
    let small_n : n < 2 ^ 32 = h.words 5 in
    let base : (p + 7) % 2 ^ 32 / 2 ^ 3 * 2 ^ 3 % 2 ^ 32 ≡ base_of p = the_base p small in
    start C know.fair (tree NODES) INIT_HEAP (λ _. ⊥) (λ to e. Through (init_heap s) most_heap_steps to e) (begun (called_with (registers_of s) d) z m) (rw base (
      λ little.
          let is : 0 ≡ size_of p n = sym (no_size p n small (true_then n ((base_of p + 2 ^ 32 - p) % 2 ^ 32) little)) in
          know.room _ _ _ _ _ _ _ (omega arith) (λ x y q up. (
            λ bad. refused s h.valid m h.holds p n small 0 is bad _ h.holds refl refl (omega (arith, up)),
            λ good. accepted s h.valid m h.holds p n small 0 is good _ refl refl (omega (arith, up)) refl refl refl refl refl refl,
          )),
      λ much.
          let is = a_size p n small small_n (false_then n ((base_of p + 2 ^ 32 - p) % 2 ^ 32) much) in
          know.room _ _ _ _ _ _ _ (omega arith) (λ x y q up. (
            λ bad. refused s h.valid m h.holds p n small _ is bad _ h.holds refl refl (omega (arith, up)),
            λ good. accepted s h.valid m h.holds p n small _ is good _ refl refl (omega (arith, up)) refl refl refl refl refl refl,
          )),
    ))
