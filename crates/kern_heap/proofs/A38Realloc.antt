-- realloc meets its stay.
use Rattle.psx_flow.proofs.Kit.{◌≡◌, ℕ, suc, ◌+◌, ◌-◌, ◌%◌, ◌^◌, ◌<◌, ◌≤◌, [], refl, sym, ap, ◌∙◌, subst, arith, ⊎_elim, Memory, byte, put_byte, Run, Goal, Meets, Loop, Stop, Part, Anew, Turn, while, place, kernel_words, start, Sym, ended}
use Rattle.std.proofs.Common.{zero, eq-eqb, ne_eqb}
use Rattle.std.specs.Prelude.{Option, Some, None, min, nat_eq, if◌then◌else◌}
use Rattle.psx_base.specs.KernelState.{KernelState}
use Rattle.psx_flow.specs.Told.{ports}
use Rattle.kern_layout.specs.Valid.{Valid}
use Rattle.abs_kernel.proofs.Moved.{valid_moved}
use Rattle.abs_kernel.proofs.Heaped.{valid_heaped}
use Rattle.abs_kernel.proofs.HeapKept.{allocates_fits}
use Rattle.abs_kernel.specs.Stay.{Stay}
use Rattle.abs_kernel.specs.Answered.{registers_of, answered}
use Rattle.abs_kernel.specs.UserBytes.{reads_byte, writes_byte, following, with_byte}
use Rattle.abs_kernel.specs.Memcpy.{copy_bytes}
use Rattle.abs_kernel.specs.Heap.{rounded, allocates, used_size, with_blocks, with_freed_block}
use Rattle.abs_kernel.specs.Malloc.{gives}
use Rattle.abs_kernel.specs.Realloc.{moves, resizes, realloc}
use Rattle.kern_stay.specs.Shared.{tree}
use Rattle.kern_stay.specs.Doors.{Holds, Through, Serves, called_with, begun, most_heap_steps}
use Rattle.kern_stay.proofs.RoomGiven.{true_then, false_then}
use Rattle.kern_stay.proofs.Holding.{holds_byte}
use Rattle.kern_stay.proofs.Ending.{through, answers, Left, left_all, left_is, left_read, left_written, user_byte}
use Rattle.kern_stay.proofs.Looping.{loop_test, loop_body, behind_loop, leaves}
use Rattle.kern_stay.proofs.TwoCursors.{Pair, Cursors, both_come, both_done}
use Rattle.kern_heap.specs.Own.{own}
use Rattle.kern_heap.specs.declared.places.TheConstants.{REALLOC}
use Rattle.kern_heap.specs.declared.a38_realloc.TheConstants.{NODES}
use Rattle.kern_heap.proofs.HeapHeld.{UserBlock, user_block, given_block, not_null}
use Rattle.kern_heap.proofs.Finding.{IsFound}
use Rattle.kern_heap.proofs.Allotting.{NotGiven, IsGiven, came_by}
use Rattle.kern_heap.proofs.OwnCalls.{C, fair_own, allotting, releasing, finding, gives_through}

-- the state with its memory so far
abbrev now : KernelState → Memory → KernelState
now s u = record s { memory = u }

-- what follows the bytes
abbrev done : (p at : ℕ) → KernelState → Stay
done p at t = answered (with_freed_block t p) at

copy_more : (k : ℕ) (s : KernelState) (to from p at : ℕ) → 0 < k
    → copy_bytes k s to from (done p at) ≡ reads_byte s from (λ b. writes_byte s to (b % 2 ^ 8) (λ t. copy_bytes (k - 1) t (following to) (following from) (done p at)))
copy_more zero s to from p at h = absurd (omega arith)
copy_more (suc k) s to from p at h =
    let e : suc k - 1 ≡ k = omega arith in
    ap (λ n. reads_byte s from (λ b. writes_byte s to (b % 2 ^ 8) (λ t. copy_bytes n t (following to) (following from) (done p at)))) (sym e)

copy_none : (k : ℕ) (s : KernelState) (to from p at : ℕ) → k ≡ 0 → copy_bytes k s to from (done p at) ≡ done p at s
copy_none k s to from p at e = ap (λ n. copy_bytes n s to from (done p at)) e

-- n bytes of two blocks
pair_of : (a b n j k : ℕ) → UserBlock a j → UserBlock b k → n ≤ j → n ≤ k → Pair a b n n 0 0
pair_of a b n j k x y in_a in_b =
    let u = x.within in
    let v = y.within in
    record {
      first = λ i lt. x.good i (omega (arith, lt, in_a));
      other = λ i lt. y.good i (omega (arith, lt, in_b));
      within = (omega (arith, u, in_a), omega (arith, v, in_b));
      most = omega arith;
      all = λ z. refl;
      some = λ ne. absurd (ne refl);
      bad_first = λ ne z. absurd (ne refl);
      bad_other = λ ne z. absurd (ne refl);
    }

-- at the loop's head, with k bytes to come
record Head (stay : Stay) (s : KernelState) (a b n k : ℕ) (e : Run) : Type 0 where
  memory : Memory
  holds : Holds (now s memory) e.bytes
  most : ℕ
  left : Left most_heap_steps stay (copy_bytes k (now s memory) e.regs.r9 e.regs.r8 (done a b)) most
  within : e.steps + 5400 ≤ most
  quiet : ports e.seen ≡ []
  r2 : e.regs.r2 ≡ b
  r4 : e.regs.r4 ≡ a
  r11 : e.regs.r11 ≡ (a + n) % 2 ^ 32
  cursors : Cursors a b n n k e.regs.r8 e.regs.r9

module _ (stay : Stay) (s : KernelState) (valid : Valid s) (a b n : ℕ) (pair : Pair a b n n 0 0) where
  abbrev G : ℕ → Goal
  G to e = Through stay most_heap_steps to e

  abbrev Inv : ℕ → Goal
  Inv k e = Head stay s a b n k e

  -- what follows the loop, where it stands
  abbrev Rest : Part
  Rest = Sym C (behind_loop (tree NODES)) (REALLOC + 164) (ended (λ _. ⊥)) G

  abbrev next : (x y k : ℕ) → KernelState → Stay
  next x y k t = copy_bytes (k - 1) t (following y) (following x) (done a b)

  turn : (k : ℕ) (e : Run) → Inv k e → Turn C (loop_test (tree NODES)) (loop_body (tree NODES)) 0 Rest G ℕ (λ i. i) Inv k e
  turn k e h =
      let x : ℕ = e.regs.r8 in
      let y : ℕ = e.regs.r9 in
      let t : KernelState = now s h.memory in
      let v : ℕ = byte h.memory (place x) in
      let few = h.within in
      let kept : Valid t = valid_moved s h.memory s.random s.running valid valid.running in
      record {
        leave = λ eq.
            let l = left_is stay _ _ h.most (copy_none k t y x a b (both_done a b n n 0 0 k x y pair h.cursors (eq ∙ h.r11) refl)) h.left in
            releasing t kept e.bytes h.holds _ _ _ _ _ (λ a8 a9 a10 a11 a12 a13 a14 a15 a31 z m u p quiet there more.
            leaves stay (done a b t) h.most (with_freed_block t a) _ l (quiet ∙ h.quiet) (ap (answered (with_freed_block t a)) (sym h.r2)) (subst (λ r. Holds (with_freed_block t r) m) h.r4 there) (omega (arith, few, more)));
        again = λ ne.
            let g = both_come a b n n 0 0 k x y pair h.cursors (λ q. ne (q ∙ sym h.r11)) in
            let l = left_read stay t x (λ c. writes_byte t y (c % 2 ^ 8) (next x y k)) h.most g.user_x (left_is stay _ _ h.most (copy_more k t y x a b g.some) h.left) in
            let l = left_written stay t y (v % 2 ^ 8) (next x y k) (h.most + 128) g.user_y l in
            let is : byte e.bytes (place x) ≡ v = user_byte t e.bytes h.holds x g.user_x in
            let stored : Holds (with_byte t y (v % 2 ^ 8)) (put_byte e.bytes (place y) (byte e.bytes (place x) % 2 ^ 8)) =
            subst (λ u. Holds (with_byte t y (v % 2 ^ 8)) (put_byte e.bytes (place y) (u % 2 ^ 8))) (sym is) (holds_byte t kept e.bytes h.holds y (v % 2 ^ 8) g.user_y) in
            rw (g.here_x, g.sort_x, g.here_y, g.sort_y) (
              k - 1,
              g.less,
              record {
                memory = put_byte h.memory (place y) (v % 2 ^ 8);
                holds = stored;
                most = h.most + 128 + 128;
                left = l;
                within = omega (arith, few);
                quiet = h.quiet;
                r2 = h.r2;
                r4 = h.r4;
                r11 = h.r11;
                cursors = g.next;
              },
            );
      }

  -- from where the loop is reached
  loops : (e : Run) → Left most_heap_steps stay (copy_bytes n s e.regs.r9 e.regs.r8 (done a b)) most_heap_steps → Holds s e.bytes → e.steps ≤ 20000 → ports e.seen ≡ []
      → e.regs.r8 ≡ a → e.regs.r9 ≡ b → e.regs.r2 ≡ b → e.regs.r4 ≡ a → e.regs.r11 ≡ (a + n) % 2 ^ 32 → Meets kernel_words C (Loop (loop_test (tree NODES)) (loop_body (tree NODES)) Stop) 0 (Anew Rest) G e
  loops e l holds few quiet r8 r9 r2 r4 r11 =
      while C fair_own (loop_test (tree NODES)) (loop_body (tree NODES)) 0 Rest G ℕ (λ i. i) Inv turn n e record {
        memory = s.memory;
        holds = holds;
        most = most_heap_steps;
        left = l;
        within = omega (arith, few);
        quiet = quiet;
        r2 = r2;
        r4 = r4;
        r11 = r11;
        cursors = record { first = ap (λ x. x + n) r8; other = ap (λ x. x + n) r9; most = omega arith; room = omega arith };
      }

-- ---- the call

-- the steps up to the loop
up_to_loop : (x : ℕ) → x ≤ 13000 → suc (suc (suc (suc (suc (suc (suc (suc x))))))) ≤ 20000
up_to_loop x h = omega arith

up_to_loop_less : (x : ℕ) → x ≤ 13000 → suc (suc (suc (suc (suc (suc (suc (suc (suc x)))))))) ≤ 20000
up_to_loop_less x h = omega arith

less : (n a : ℕ) → n < a → n ≤ a
less n a h = omega arith

same : (a : ℕ) → a ≤ a
same a = omega arith

least : (n : ℕ) → n ≤ rounded n
least n = omega arith

least_of : (n a : ℕ) → a ≤ n → a ≤ rounded n
least_of n a h = omega arith

min_first : (n a : ℕ) → n < a → min n a ≡ n
min_first n a h = omega arith

min_other : (n a : ℕ) → a ≤ n → min n a ≡ a
min_other n a h = omega arith

-- by its arguments
of_null : (s : KernelState) (p n : ℕ) → p ≡ 0 → (if nat_eq p 0 then gives s (allocates s.heap n) else if nat_eq n 0 then answered (with_freed_block s p) 0 else resizes p n s (used_size p s.heap.base s.heap.blocks)) ≡ gives s (allocates s.heap n)
of_null s p n e = ap (λ b. if b then gives s (allocates s.heap n) else if nat_eq n 0 then answered (with_freed_block s p) 0 else resizes p n s (used_size p s.heap.base s.heap.blocks)) (eq-eqb p 0 e)

of_zero : (s : KernelState) (p n : ℕ) → (p ≡ 0 → ⊥) → n ≡ 0 → (if nat_eq p 0 then gives s (allocates s.heap n) else if nat_eq n 0 then answered (with_freed_block s p) 0 else resizes p n s (used_size p s.heap.base s.heap.blocks)) ≡ answered (with_freed_block s p) 0
of_zero s p n ne e = (λ i. if ne_eqb p 0 ne i then gives s (allocates s.heap n) else if eq-eqb n 0 e i then answered (with_freed_block s p) 0 else resizes p n s (used_size p s.heap.base s.heap.blocks))

of_size : (s : KernelState) (p n : ℕ) (o : Option ℕ) → (p ≡ 0 → ⊥) → (n ≡ 0 → ⊥) → used_size p s.heap.base s.heap.blocks ≡ o
    → (if nat_eq p 0 then gives s (allocates s.heap n) else if nat_eq n 0 then answered (with_freed_block s p) 0 else resizes p n s (used_size p s.heap.base s.heap.blocks)) ≡ resizes p n s o
of_size s p n o np nn e = (λ i. if ne_eqb p 0 np i then gives s (allocates s.heap n) else if ne_eqb n 0 nn i then answered (with_freed_block s p) 0 else resizes p n s (e i))

pub serves : Serves own most_heap_steps realloc REALLOC (tree NODES)
serves s d z m h =
    let p : ℕ = (registers_of s).r4 in
    let n : ℕ = (registers_of s).r5 in
    let stay : Stay = realloc s in
    let small : n < 2 ^ 32 = h.words 5 in
    start C fair_own (tree NODES) REALLOC (λ _. ⊥) (λ to e. Through stay most_heap_steps to e) (begun (called_with (registers_of s) d) z m) (
      λ null. allotting s h.valid m h.holds _ _ _ _ _ small (λ a2 a8 a9 a10 a11 a12 a13 a15 y x u q quiet came few.
          gives_through s (allocates s.heap n) stay _ (of_null s p n null) quiet came (omega (arith, few))),
      λ some_p. (
        λ none. releasing s h.valid m h.holds _ _ _ _ _ (λ a8 a9 a10 a11 a12 a13 a14 a15 a31 y x u q quiet there few.
            through stay most_heap_steps _ _ quiet (answers most_heap_steps (with_freed_block s p) _ stay (of_zero s p n some_p none) there (omega (arith, few)))),
        λ some_n. finding s h.valid m h.holds _ _ _ _ _ (λ a8 a9 a11 a12 a14 a15 y1 u1 q1 quiet1 found few1. (
          λ none. ⊎_elim
              (λ (f : (a9 ≡ 0) × (used_size p s.heap.base s.heap.blocks ≡ None)). through stay most_heap_steps _ _ quiet1 (answers most_heap_steps s _ stay (of_size s p n None some_p some_n f.1) h.holds (omega (arith, few1))))
              (λ (f : IsFound s m p a8 a9 a11). absurd (f.some none)) found,
          λ some. ⊎_elim
              (λ (f : (a9 ≡ 0) × (used_size p s.heap.base s.heap.blocks ≡ None)). absurd (some f.0))
              (λ (f : IsFound s m p a8 a9 a11).
              let is : stay ≡ moves p (min n a11) s (allocates s.heap n) = of_size s p n (Some a11) some_p some_n f.size in
              let old : UserBlock p a11 = user_block s.heap h.valid.heap p a11 f.size in
              allotting s h.valid m h.holds _ _ _ _ _ small (λ b2 b8 b9 b10 b11 b12 b13 b15 y2 x2 u2 q2 quiet2 came few2.
              let soon : q2.steps ≤ 13000 = omega (arith, few1, few2) in ⊎_elim
              (λ (no : NotGiven s (allocates s.heap n) b2 x2). (
                λ null. through stay most_heap_steps _ _ (quiet2 ∙ quiet1) (answers most_heap_steps s _ stay (is ∙ ap (moves p (min n a11) s) no.is ∙ ap (answered s) (sym no.null)) no.holds (omega (arith, soon))),
                λ some_2. absurd (some_2 no.null),
              ))
              (λ (o : IsGiven s (allocates s.heap n) b2 x2).
              let g = o.given in
              let t : KernelState = with_blocks s g.blocks in
              let new : UserBlock g.at (rounded n) = given_block s.heap h.valid.heap n g o.is in
              let valid_t : Valid t = valid_heaped s t.heap h.valid (allocates_fits s.heap n g o.is h.valid.heap) in
              let goes : stay ≡ copy_bytes (min n a11) t b2 p (done p g.at) = is ∙ ap (moves p (min n a11) s) o.is ∙ ap (λ r. copy_bytes (min n a11) t r p (done p g.at)) (sym o.at) in (
                λ null. absurd (not_null g.at (rounded n) new (sym o.at ∙ null)),
                λ some_2. (
                  λ shorter.
                      let lt = true_then n a11 shorter in
                      let count = min_first n a11 lt in
                      let l = left_is stay _ _ most_heap_steps (goes ∙ ap (λ k. copy_bytes k t b2 p (done p g.at)) count) (left_all stay) in
                      loops stay t valid_t p g.at n (pair_of p g.at n a11 (rounded n) old new (less n a11 lt) (least n)) _ l o.holds (up_to_loop_less q2.steps soon) (quiet2 ∙ quiet1) refl o.at o.at refl refl,
                  λ all.
                      let le = false_then n a11 all in
                      let count = min_other n a11 le in
                      let l = left_is stay _ _ most_heap_steps (goes ∙ ap (λ k. copy_bytes k t b2 p (done p g.at)) count) (left_all stay) in
                      loops stay t valid_t p g.at a11 (pair_of p g.at a11 a11 (rounded n) old new (same a11) (least_of n a11 le)) _ l o.holds (up_to_loop q2.steps soon) (quiet2 ∙ quiet1) refl o.at o.at refl refl,
                ),
              ))
              (came_by s (allocates s.heap n) b2 x2 came))) found,
        )),
      ),
    )
