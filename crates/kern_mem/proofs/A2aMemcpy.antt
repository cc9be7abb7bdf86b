-- memcpy and bcopy meet their stays.
use Rattle.psx_flow.proofs.Kit.{◌≡◌, ℕ, suc, ◌+◌, ◌-◌, ◌%◌, ◌^◌, ◌<◌, ◌≤◌, ◌++◌, refl, sym, ap, ◌∙◌, subst, arith, Memory, Registers, Cop0, byte, put_byte, Run, Goal, Calls, calls, place, kernel_words, start, Sym, Count, ended}
use Rattle.std.proofs.Common.{zero, []}
use Rattle.std.specs.Prelude.{nat_lt}
use Rattle.psx_base.specs.KernelState.{KernelState}
use Rattle.psx_cpu.specs.Words.{truth}
use Rattle.psx_flow.specs.Told.{ports}
use Rattle.kern_layout.specs.Valid.{Valid}
use Rattle.abs_kernel.proofs.Moved.{valid_moved}
use Rattle.abs_kernel.specs.Stay.{Stay}
use Rattle.abs_kernel.specs.Answered.{registers_of, answered}
use Rattle.abs_kernel.specs.UserBytes.{reads_byte, writes_byte, bad_pointer, following, count_of, with_byte}
use Rattle.abs_kernel.specs.Memcpy.{copy_bytes, copies, memcpy, bcopy}
use Rattle.abs_kernel.specs.declared.calls.CallId.TheVariants.{A27, A2A}
use Rattle.abs_kernel.specs.Calls.{call}
use Rattle.kern_stay.specs.Room.{room}
use Rattle.kern_stay.specs.Shared.{tree, tested_there}
use Rattle.kern_stay.specs.Doors.{Holds, Through, Serves, called_with, begun, most_steps}
use Rattle.kern_stay.proofs.RoomGiven.{KnowsRoom, knows_room, true_then, false_then}
use Rattle.kern_stay.proofs.Holding.{holds_byte}
use Rattle.kern_stay.proofs.Ending.{no_count, a_count, through, answers, Left, left_all, left_is, left_read, left_unread, left_written, left_unwritten, user_byte}
use Rattle.kern_stay.proofs.Looping.{Turning, FromLoop, looped, leaves, stops}
use Rattle.kern_stay.proofs.TwoCursors.{Pair, pair_all, pair_first, pair_other, Cursors, both_come, both_done, first_bad, other_bad}
use Rattle.kern_mem.specs.Own.{own}
use Rattle.kern_mem.specs.declared.places.TheConstants.{MEMCPY, BCOPY, ROOM}
use Rattle.kern_mem.specs.declared.a2a_memcpy.TheConstants.{NODES, BCOPY_NODES}
use Rattle.kern_mem.proofs.Pointers.{null_first, null_other, not_null_both}

-- the state with its memory so far
abbrev now : KernelState → Memory → KernelState
now s u = record s { memory = u }

-- what follows the bytes
abbrev done : ℕ → KernelState → Stay
done d t = answered t d

copy_more : (k : ℕ) (s : KernelState) (to from d : ℕ) → 0 < k
    → copy_bytes k s to from (done d) ≡ reads_byte s from (λ b. writes_byte s to (b % 2 ^ 8) (λ t. copy_bytes (k - 1) t (following to) (following from) (done d)))
copy_more zero s to from d h = absurd (omega arith)
copy_more (suc k) s to from d h =
    let e : suc k - 1 ≡ k = omega arith in
    ap (λ n. reads_byte s from (λ b. writes_byte s to (b % 2 ^ 8) (λ t. copy_bytes n t (following to) (following from) (done d)))) (sym e)

copy_none : (k : ℕ) (s : KernelState) (to from d : ℕ) → k ≡ 0 → copy_bytes k s to from (done d) ≡ answered s d
copy_none k s to from d e = ap (λ n. copy_bytes n s to from (done d)) e

-- at the loop's head, with k bytes to come
record Head (stay : Stay) (s : KernelState) (a b n m flag second k : ℕ) (e : Run) : Type 0 where
  memory : Memory
  holds : Holds (now s memory) e.bytes
  most : ℕ
  left : Left most_steps stay (copy_bytes k (now s memory) e.regs.r9 e.regs.r8 (done b)) most
  within : e.steps + 20 ≤ most
  quiet : ports e.seen ≡ []
  r4 : e.regs.r4 ≡ b
  r10 : e.regs.r10 ≡ flag
  r11 : e.regs.r11 ≡ (a + m) % 2 ^ 32
  r13 : e.regs.r13 ≡ second
  cursors : Cursors a b n m k e.regs.r8 e.regs.r9

module _ (C : Calls) (know : KnowsRoom ROOM C) (stay : Stay) (s : KernelState) (valid : Valid s) (a b n m flag second : ℕ) (pair : Pair a b n m flag second) where
  abbrev G : ℕ → Goal
  G to e = Through stay most_steps to e

  abbrev Inv : ℕ → Goal
  Inv k e = Head stay s a b n m flag second k e

  abbrev next : (x y k : ℕ) → KernelState → Stay
  next x y k t = copy_bytes (k - 1) t (following y) (following x) (done b)

  abbrev write : (x y k : ℕ) → KernelState → ℕ → Stay
  write x y k t v = writes_byte t y (v % 2 ^ 8) (next x y k)

  turn : (k : ℕ) (e : Run) → Inv k e → Turning C (tree NODES) G Inv k e
  turn k e h =
      let x : ℕ = e.regs.r8 in
      let y : ℕ = e.regs.r9 in
      let t : KernelState = now s h.memory in
      let v : ℕ = byte h.memory (place x) in
      let few = h.within in
      record {
        leave = λ eq. (
          λ ne. (
            λ nz.
                let p = other_bad a b n m flag second k x y pair h.cursors (eq ∙ h.r11) (λ z. ne (h.r10 ∙ z)) (λ z. nz (h.r13 ∙ z)) in
                let l = left_read stay t x (write x y k t) h.most p.0 (left_is stay _ _ h.most (copy_more k t y x b p.1.some) h.left) in
                let l = left_unwritten stay t y (v % 2 ^ 8) (next x y k) (h.most + 128) p.1.user l in
                stops stay (bad_pointer t y) (h.most + 128 + 128) t _ l h.quiet refl h.holds (omega arith),
            λ z.
                let p = first_bad a b n m flag second k x y pair h.cursors (eq ∙ h.r11) (λ z. ne (h.r10 ∙ z)) (sym h.r13 ∙ z) in
                let l = left_unread stay t x (write x y k t) h.most p.user (left_is stay _ _ h.most (copy_more k t y x b p.some) h.left) in
                stops stay (bad_pointer t x) (h.most + 128) t _ l h.quiet refl h.holds (omega arith),
          ),
          λ z.
              let l = left_is stay _ _ h.most (copy_none k t y x b (both_done a b n m flag second k x y pair h.cursors (eq ∙ h.r11) (sym h.r10 ∙ z))) h.left in
              leaves stay (answered t b) h.most t _ l h.quiet (ap (answered t) (sym h.r4)) h.holds (omega arith),
        );
        again = λ ne.
            let g = both_come a b n m flag second k x y pair h.cursors (λ q. ne (q ∙ sym h.r11)) in
            let l = left_read stay t x (write x y k t) h.most g.user_x (left_is stay _ _ h.most (copy_more k t y x b g.some) h.left) in
            let l = left_written stay t y (v % 2 ^ 8) (next x y k) (h.most + 128) g.user_y l in
            let is : byte e.bytes (place x) ≡ v = user_byte t e.bytes h.holds x g.user_x in
            let kept : Valid t = valid_moved s h.memory s.random s.running valid valid.running in
            let stored : Holds (with_byte t y (v % 2 ^ 8)) (put_byte e.bytes (place y) (byte e.bytes (place x) % 2 ^ 8)) =
            subst (λ u. Holds (with_byte t y (v % 2 ^ 8)) (put_byte e.bytes (place y) (u % 2 ^ 8))) (sym is) (holds_byte t kept e.bytes h.holds y (v % 2 ^ 8) g.user_y) in
            rw (g.here_x, g.sort_x, g.here_y, g.sort_y) (
              k - 1,
              g.less,
              record {
                memory = put_byte h.memory (place y) (v % 2 ^ 8);
                holds = stored;
                most = h.most + 128 + 128;
                left = l;
                within = omega arith;
                quiet = h.quiet;
                r4 = h.r4;
                r10 = h.r10;
                r11 = h.r11;
                r13 = h.r13;
                cursors = g.next;
              },
            );
      }

  -- from where the loop is reached
  loops : (e : Run) → Left most_steps stay (copy_bytes n s e.regs.r9 e.regs.r8 (done b)) most_steps → Holds s e.bytes → e.steps ≤ 1000 → ports e.seen ≡ []
      → e.regs.r8 ≡ a → e.regs.r9 ≡ b → e.regs.r4 ≡ b → e.regs.r10 ≡ flag → e.regs.r11 ≡ (a + m) % 2 ^ 32 → e.regs.r13 ≡ second → FromLoop C (tree NODES) G e
  loops e l holds few quiet r8 r9 r4 r10 r11 r13 =
      looped C know.fair (tree NODES) G Inv turn n e record {
        memory = s.memory;
        holds = holds;
        most = most_steps;
        left = l;
        within = omega arith;
        quiet = quiet;
        r4 = r4;
        r10 = r10;
        r11 = r11;
        r13 = r13;
        cursors = record { first = ap (λ x. x + n) r8; other = ap (λ x. x + n) r9; most = omega arith; room = omega arith };
      }

-- how the stay goes on behind the pointers
begins : (s : KernelState) (b a n k : ℕ) → (b ≡ 0 → ⊥) → (a ≡ 0 → ⊥) → count_of n ≡ k → copies s b a n ≡ copy_bytes k s b a (done b)
begins s b a n k nb na e = not_null_both b a (answered s 0) (copy_bytes (count_of n) s b a (done b)) nb na ∙ ap (λ k. copy_bytes k s b a (done b)) e

abbrev C : Calls
C = calls kernel_words (own ++ tested_there)

know : KnowsRoom ROOM C
know = knows_room ROOM tested_there

-- from where the destination is in r4, the source in r5 and the count in r6
copying : (s : KernelState) → Valid s → (c : Registers) (z : Cop0) (m : Memory) → Holds s m → (at : ℕ) (p : Count) → p.steps ≤ 100 → c.r4 < 2 ^ 32 → c.r5 < 2 ^ 32
    → Sym C (tree NODES) at (ended (λ _. ⊥)) (λ to e. Through (copies s c.r4 c.r5 c.r6) most_steps to e) c z m [] [] p
copying s valid c z m holds at p soon small_b small_a =
    let b : ℕ = c.r4 in
    let a : ℕ = c.r5 in
    let n : ℕ = c.r6 in
    let stay : Stay = copies s b a n in
    let second : ℕ = truth (nat_lt (room b) (room a)) in
    let go : Stay = copy_bytes (count_of n) s b a (done b) in (
      λ none. through stay most_steps _ _ refl (answers most_steps s _ stay (null_first b a (answered s 0) go none) holds (omega arith)),
      λ nb. (
        λ none. through stay most_steps _ _ refl (answers most_steps s _ stay (null_other b a (answered s 0) go nb none) holds (omega arith)),
        λ na. (
          λ few. through stay most_steps _ _ refl (answers most_steps s _ stay (begins s b a n 0 nb na (no_count n few)) holds (omega arith)),
          λ pos.
              let l = left_is stay _ _ most_steps (begins s b a n n nb na (a_count n pos.1)) (left_all stay) in
              know.room _ _ _ _ _ _ _ small_b (λ x y q up. know.room _ _ _ _ _ _ _ small_a (λ f g r more. (
                λ nz.
                    let flag : ℕ = truth (nat_lt (room b) n) in
                    let less = true_then (room b) (room a) nz in (
                      λ z.
                          let fits = false_then (room b) n z in
                          let both = pair_all a b n flag second small_a small_b z (omega (arith, fits, less)) fits in
                          loops C know stay s valid a b n n flag second both _ l holds (omega arith) refl refl refl refl refl refl refl,
                      λ ne.
                          let bad = pair_other a b n flag second small_a small_b ne nz (true_then (room b) n ne) less in
                          loops C know stay s valid a b n (room b) flag second bad _ l holds (omega arith) refl refl refl refl refl refl refl,
                    ),
                λ nz.
                    let flag : ℕ = truth (nat_lt (room a) n) in
                    let le = false_then (room b) (room a) nz in (
                      λ z.
                          let fits = false_then (room a) n z in
                          let both = pair_all a b n flag second small_a small_b z fits (omega (arith, fits, le)) in
                          loops C know stay s valid a b n n flag second both _ l holds (omega arith) refl refl refl refl refl refl refl,
                      λ ne.
                          let bad = pair_first a b n flag second small_a small_b ne nz (true_then (room a) n ne) le in
                          loops C know stay s valid a b n (room a) flag second bad _ l holds (omega arith) refl refl refl refl refl refl refl,
                    ),
              ))),
        ),
      ),
    )

pub serves : Serves own most_steps (call A2A) MEMCPY (tree NODES)
serves s d z m h =
    start C know.fair (tree NODES) MEMCPY (λ _. ⊥) (λ to e. Through (memcpy s) most_steps to e) (begun (called_with (registers_of s) d) z m)
    (copying s h.valid _ z m h.holds MEMCPY _ (omega arith) (h.words 4) (h.words 5))

pub bcopy_serves : Serves own most_steps (call A27) BCOPY (tree BCOPY_NODES)
bcopy_serves s d z m h =
    start C know.fair (tree BCOPY_NODES) BCOPY (λ _. ⊥) (λ to e. Through (bcopy s) most_steps to e) (begun (called_with (registers_of s) d) z m)
    (copying s h.valid _ z m h.holds (BCOPY + 4 + 4 + 4) _ (omega arith) (h.words 5) (h.words 4))
