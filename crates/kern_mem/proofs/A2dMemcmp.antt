-- memcmp meets its stay.
use Rattle.psx_flow.proofs.Kit.{◌≡◌, ℕ, suc, ◌+◌, ◌-◌, ◌%◌, ◌^◌, ◌<◌, ◌≤◌, ◌++◌, refl, sym, ap, ◌∙◌, subst, arith, Memory, byte, Run, Goal, Calls, calls, place, kernel_words, start}
use Rattle.std.proofs.Common.{zero, [], Bool, eq-eqb, ne_eqb}
use Rattle.std.specs.Prelude.{nat_eq, nat_lt, if◌then◌else◌}
use Rattle.psx_base.specs.KernelState.{KernelState}
use Rattle.psx_cpu.specs.Words.{truth}
use Rattle.psx_flow.specs.Told.{ports}
use Rattle.abs_kernel.specs.Stay.{Stay}
use Rattle.abs_kernel.specs.Answered.{registers_of, answered}
use Rattle.abs_kernel.specs.UserBytes.{reads_byte, bad_pointer, following, count_of}
use Rattle.abs_kernel.specs.Memcmp.{difference, compare_bytes, memcmp}
use Rattle.abs_kernel.specs.declared.calls.CallId.TheVariants.{A2D}
use Rattle.abs_kernel.specs.Calls.{call}
use Rattle.kern_stay.specs.Room.{room}
use Rattle.kern_stay.specs.Shared.{tree, tested_there}
use Rattle.kern_stay.specs.Doors.{Holds, Through, Serves, called_with, begun, most_steps}
use Rattle.kern_stay.proofs.RoomGiven.{KnowsRoom, knows_room, true_then, false_then}
use Rattle.kern_stay.proofs.Ending.{no_count, a_count, through, answers, Left, left_all, left_is, left_read, left_unread, user_byte}
use Rattle.kern_stay.proofs.Looping.{Turning, FromLoop, looped, leaves, stops}
use Rattle.kern_stay.proofs.TwoCursors.{Pair, pair_all, pair_first, pair_other, Cursors, both_come, both_done, first_bad, other_bad}
use Rattle.kern_mem.specs.Own.{own}
use Rattle.kern_mem.specs.declared.places.TheConstants.{MEMCMP, ROOM}
use Rattle.kern_mem.specs.declared.a2d_memcmp.TheConstants.{NODES}
use Rattle.kern_mem.proofs.Pointers.{null_first, null_other, not_null_both}

-- behind two bytes
abbrev behind : (k : ℕ) → KernelState → (x y b c : ℕ) → Stay
behind k s x y b c = if nat_eq b c then compare_bytes (k - 1) s (following x) (following y) else answered s (difference b c)

compare_more : (k : ℕ) (s : KernelState) (x y : ℕ) → 0 < k → compare_bytes k s x y ≡ reads_byte s x (λ b. reads_byte s y (λ c. behind k s x y b c))
compare_more zero s x y h = absurd (omega arith)
compare_more (suc k) s x y h =
    let e : suc k - 1 ≡ k = omega arith in
    ap (λ n. reads_byte s x (λ b. reads_byte s y (λ c. if nat_eq b c then compare_bytes n s (following x) (following y) else answered s (difference b c)))) (sym e)

compare_none : (k : ℕ) (s : KernelState) (x y : ℕ) → k ≡ 0 → compare_bytes k s x y ≡ answered s 0
compare_none k s x y e = ap (λ n. compare_bytes n s x y) e

-- at the loop's head, with k bytes to come
record Head (stay : Stay) (s : KernelState) (mem : Memory) (a b n m flag second k : ℕ) (e : Run) : Type 0 where
  most : ℕ
  left : Left most_steps stay (compare_bytes k s e.regs.r8 e.regs.r9) most
  within : e.steps + 20 ≤ most
  bytes : e.bytes ≡ mem
  quiet : ports e.seen ≡ []
  r10 : e.regs.r10 ≡ flag
  r11 : e.regs.r11 ≡ (a + m) % 2 ^ 32
  r14 : e.regs.r14 ≡ second
  cursors : Cursors a b n m k e.regs.r8 e.regs.r9

module _ (C : Calls) (know : KnowsRoom ROOM C) (stay : Stay) (s : KernelState) (mem : Memory) (holds : Holds s mem) (a b n m flag second : ℕ) (pair : Pair a b n m flag second) where
  abbrev G : ℕ → Goal
  G to e = Through stay most_steps to e

  abbrev Inv : ℕ → Goal
  Inv k e = Head stay s mem a b n m flag second k e

  turn : (k : ℕ) (e : Run) → Inv k e → Turning C (tree NODES) G Inv k e
  turn k e h =
      let x : ℕ = e.regs.r8 in
      let y : ℕ = e.regs.r9 in
      let v : ℕ = byte s.memory (place x) in
      let w : ℕ = byte s.memory (place y) in
      let there : Holds s e.bytes = subst (Holds s) (sym h.bytes) holds in
      let go : Bool → Stay = λ t. if t then compare_bytes (k - 1) s (following x) (following y) else answered s (difference v w) in
      let few = h.within in
      record {
        leave = λ eq. (
          λ ne. (
            λ nz.
                let p = other_bad a b n m flag second k x y pair h.cursors (eq ∙ h.r11) (λ z. ne (h.r10 ∙ z)) (λ z. nz (h.r14 ∙ z)) in
                let l = left_read stay s x (λ b. reads_byte s y (λ c. behind k s x y b c)) h.most p.0 (left_is stay _ _ h.most (compare_more k s x y p.1.some) h.left) in
                let l = left_unread stay s y (λ c. behind k s x y v c) (h.most + 128) p.1.user l in
                stops stay (bad_pointer s y) (h.most + 128 + 128) s _ l h.quiet refl there (omega arith),
            λ z.
                let p = first_bad a b n m flag second k x y pair h.cursors (eq ∙ h.r11) (λ z. ne (h.r10 ∙ z)) (sym h.r14 ∙ z) in
                let l = left_unread stay s x (λ b. reads_byte s y (λ c. behind k s x y b c)) h.most p.user (left_is stay _ _ h.most (compare_more k s x y p.some) h.left) in
                stops stay (bad_pointer s x) (h.most + 128) s _ l h.quiet refl there (omega arith),
          ),
          λ z.
              let l = left_is stay _ _ h.most (compare_none k s x y (both_done a b n m flag second k x y pair h.cursors (eq ∙ h.r11) (sym h.r10 ∙ z))) h.left in
              leaves stay (answered s 0) h.most s _ l h.quiet refl there (omega arith),
        );
        again = λ ne.
            let g = both_come a b n m flag second k x y pair h.cursors (λ q. ne (q ∙ sym h.r11)) in
            let l = left_read stay s x (λ b. reads_byte s y (λ c. behind k s x y b c)) h.most g.user_x (left_is stay _ _ h.most (compare_more k s x y g.some) h.left) in
            let l = left_read stay s y (λ c. behind k s x y v c) (h.most + 128) g.user_y l in
            let is_v : byte e.bytes (place x) ≡ v = user_byte s e.bytes there x g.user_x in
            let is_w : byte e.bytes (place y) ≡ w = user_byte s e.bytes there y g.user_y in
            rw (g.here_x, g.sort_x, g.here_y, g.sort_y) (
              λ differ.
                  let now = left_is stay _ _ (h.most + 128 + 128) (ap go (ne_eqb v w (λ q. differ (is_v ∙ q ∙ sym is_w)))) l in
                  leaves stay (answered s (difference v w)) (h.most + 128 + 128) s _ now h.quiet (λ i. answered s (difference (sym is_v i) (sym is_w i))) there (omega arith),
              λ same.
                  let now = left_is stay _ _ (h.most + 128 + 128) (ap go (eq-eqb v w (sym is_v ∙ same ∙ is_w))) l in (
                    k - 1,
                    g.less,
                    record { most = h.most + 128 + 128; left = now; within = omega arith; bytes = h.bytes; quiet = h.quiet; r10 = h.r10; r11 = h.r11; r14 = h.r14; cursors = g.next },
                  ),
            );
      }

  -- from where the loop is reached
  loops : (e : Run) → Left most_steps stay (compare_bytes n s e.regs.r8 e.regs.r9) most_steps → e.bytes ≡ mem → e.steps ≤ 1000 → ports e.seen ≡ []
      → e.regs.r8 ≡ a → e.regs.r9 ≡ b → e.regs.r10 ≡ flag → e.regs.r11 ≡ (a + m) % 2 ^ 32 → e.regs.r14 ≡ second → FromLoop C (tree NODES) G e
  loops e l bytes few quiet r8 r9 r10 r11 r14 =
      looped C know.fair (tree NODES) G Inv turn n e record {
        most = most_steps;
        left = l;
        within = omega arith;
        bytes = bytes;
        quiet = quiet;
        r10 = r10;
        r11 = r11;
        r14 = r14;
        cursors = record { first = ap (λ x. x + n) r8; other = ap (λ x. x + n) r9; most = omega arith; room = omega arith };
      }

-- how the stay goes on behind the pointers
begins : (s : KernelState) (n : ℕ) → let r = registers_of s in (r.r4 ≡ 0 → ⊥) → (r.r5 ≡ 0 → ⊥) → count_of r.r6 ≡ n → memcmp s ≡ compare_bytes n s r.r4 r.r5
begins s n na nb e = let r = registers_of s in not_null_both r.r4 r.r5 (answered s 0) (compare_bytes (count_of r.r6) s r.r4 r.r5) na nb ∙ ap (λ n. compare_bytes n s r.r4 r.r5) e

pub serves : Serves own most_steps (call A2D) MEMCMP (tree NODES)
serves s d z mem h =
    let C : Calls = calls kernel_words (own ++ tested_there) in
    let know : KnowsRoom ROOM C = knows_room ROOM tested_there in
    let a : ℕ = (registers_of s).r4 in
    let b : ℕ = (registers_of s).r5 in
    let n : ℕ = (registers_of s).r6 in
    let small_a : a < 2 ^ 32 = h.words 4 in
    let small_b : b < 2 ^ 32 = h.words 5 in
    let second : ℕ = truth (nat_lt (room b) (room a)) in
    let go : Stay = compare_bytes (count_of n) s a b in
    start C know.fair (tree NODES) MEMCMP (λ _. ⊥) (λ to e. Through (memcmp s) most_steps to e) (begun (called_with (registers_of s) d) z mem) (
      λ none. through (memcmp s) most_steps _ _ refl (answers most_steps s _ (memcmp s) (null_first a b (answered s 0) go none) h.holds (omega arith)),
      λ na. (
        λ none. through (memcmp s) most_steps _ _ refl (answers most_steps s _ (memcmp s) (null_other a b (answered s 0) go na none) h.holds (omega arith)),
        λ nb. (
          λ few. through (memcmp s) most_steps _ _ refl (answers most_steps s _ (memcmp s) (begins s 0 na nb (no_count n few)) h.holds (omega arith)),
          λ pos.
              let l = left_is (memcmp s) _ _ most_steps (begins s n na nb (a_count n pos.1)) (left_all (memcmp s)) in
              know.room _ _ _ _ _ _ _ small_b (λ x y p up. know.room _ _ _ _ _ _ _ small_a (λ f g q more. (
                λ nz.
                    let flag : ℕ = truth (nat_lt (room b) n) in
                    let less = true_then (room b) (room a) nz in (
                      λ z.
                          let fits = false_then (room b) n z in
                          let both = pair_all a b n flag second small_a small_b z (omega (arith, fits, less)) fits in
                          loops C know (memcmp s) s mem h.holds a b n n flag second both _ l refl (omega arith) refl refl refl refl refl refl,
                      λ ne.
                          let bad = pair_other a b n flag second small_a small_b ne nz (true_then (room b) n ne) less in
                          loops C know (memcmp s) s mem h.holds a b n (room b) flag second bad _ l refl (omega arith) refl refl refl refl refl refl,
                    ),
                λ nz.
                    let flag : ℕ = truth (nat_lt (room a) n) in
                    let le = false_then (room b) (room a) nz in (
                      λ z.
                          let fits = false_then (room a) n z in
                          let both = pair_all a b n flag second small_a small_b z fits (omega (arith, fits, le)) in
                          loops C know (memcmp s) s mem h.holds a b n n flag second both _ l refl (omega arith) refl refl refl refl refl refl,
                      λ ne.
                          let bad = pair_first a b n flag second small_a small_b ne nz (true_then (room a) n ne) le in
                          loops C know (memcmp s) s mem h.holds a b n (room a) flag second bad _ l refl (omega arith) refl refl refl refl refl refl,
                    ),
              ))),
        ),
      ),
    )
