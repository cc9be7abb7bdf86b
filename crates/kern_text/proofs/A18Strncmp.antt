-- strncmp meets its stay. The loop is strcmp's too.
use Rattle.psx_flow.proofs.Kit.{◌≡◌, ℕ, suc, ◌+◌, ◌-◌, ◌%◌, ◌^◌, ◌<◌, ◌≤◌, ◌++◌, refl, sym, ap, ◌∙◌, subst, arith, Memory, byte, Run, Goal, Calls, calls, place, kernel_words, start}
use Rattle.std.proofs.Common.{zero, [], eq-eqb, ne_eqb}
use Rattle.std.specs.Prelude.{Bool, nat_eq, nat_lt, ◌||◌, if◌then◌else◌}
use Rattle.psx_base.specs.KernelState.{KernelState}
use Rattle.psx_cpu.specs.Words.{truth}
use Rattle.psx_flow.specs.Told.{ports}
use Rattle.abs_kernel.specs.Stay.{Stay}
use Rattle.abs_kernel.specs.Answered.{registers_of, answered}
use Rattle.abs_kernel.specs.UserBytes.{reads_byte, bad_pointer, following, count_of}
use Rattle.abs_kernel.specs.Memcmp.{difference}
use Rattle.abs_kernel.specs.Strcmp.{compare_texts, strncmp}
use Rattle.abs_kernel.specs.declared.calls.CallId.TheVariants.{A18}
use Rattle.abs_kernel.specs.Calls.{call}
use Rattle.kern_stay.specs.Room.{room}
use Rattle.kern_stay.specs.Shared.{tree, tested_there}
use Rattle.kern_stay.specs.Doors.{Holds, Through, Serves, called_with, begun, most_steps}
use Rattle.kern_stay.proofs.RoomGiven.{KnowsRoom, knows_room, true_then, false_then}
use Rattle.kern_stay.proofs.Ending.{no_count, a_count, through, answers, Left, left_all, left_is, left_read, left_unread, user_byte}
use Rattle.kern_stay.proofs.Looping.{Turning, FromLoop, looped, leaves, stops}
use Rattle.kern_stay.proofs.Cursor.{null, not_null}
use Rattle.kern_stay.proofs.TwoCursors.{Pair, pair_all, pair_first, pair_other, Cursors, both_come, both_done, first_bad, other_bad}
use Rattle.kern_text.specs.Own.{own}
use Rattle.kern_text.specs.declared.places.TheConstants.{STRNCMP, ROOM}
use Rattle.kern_text.specs.declared.a18_strncmp.TheConstants.{NODES}

-- a byte of each is read
abbrev pub both : (k : ℕ) (s : KernelState) (a b x y : ℕ) → Stay
both k s a b x y = if nat_eq x y then (if nat_eq x 0 then answered s 0 else compare_texts k s (following a) (following b)) else answered s (difference x y)

-- a byte of the first is
abbrev pub one : (k : ℕ) (s : KernelState) (a b x : ℕ) → Stay
one k s a b x = reads_byte s b (both k s a b x)

compare_more : (k : ℕ) (s : KernelState) (a b : ℕ) → 0 < k → compare_texts k s a b ≡ reads_byte s a (one (k - 1) s a b)
compare_more zero s a b h = absurd (omega arith)
compare_more (suc k) s a b h = let e : suc k - 1 ≡ k = omega arith in ap (λ n. reads_byte s a (one n s a b)) (sym e)

compare_none : (k : ℕ) (s : KernelState) (a b : ℕ) → k ≡ 0 → compare_texts k s a b ≡ answered s 0
compare_none k s a b e = ap (λ n. compare_texts n s a b) e

-- at the loop's head, with k bytes to come
record Head (stay : Stay) (s : KernelState) (u : Memory) (a b n m flag second k : ℕ) (e : Run) : Type 0 where
  most : ℕ
  left : Left most_steps stay (compare_texts k s e.regs.r8 e.regs.r9) most
  within : e.steps + 20 ≤ most
  bytes : e.bytes ≡ u
  quiet : ports e.seen ≡ []
  r10 : e.regs.r10 ≡ flag
  r11 : e.regs.r11 ≡ (a + m) % 2 ^ 32
  r13 : e.regs.r13 ≡ second
  cursors : Cursors a b n m k e.regs.r8 e.regs.r9

module _ (C : Calls) (know : KnowsRoom ROOM C) (stay : Stay) (s : KernelState) (u : Memory) (holds : Holds s u) (a b n m flag second : ℕ) (pair : Pair a b n m flag second) where
  abbrev G : ℕ → Goal
  G to e = Through stay most_steps to e

  abbrev Inv : ℕ → Goal
  Inv k e = Head stay s u a b n m flag second k e

  turn : (k : ℕ) (e : Run) → Inv k e → Turning C (tree NODES) G Inv k e
  turn k e h =
      let x : ℕ = e.regs.r8 in
      let y : ℕ = e.regs.r9 in
      let there : Holds s e.bytes = subst (Holds s) (sym h.bytes) holds in
      let v : ℕ = byte s.memory (place x) in
      let w : ℕ = byte s.memory (place y) in
      let few = h.within in
      let goes : Stay = compare_texts (k - 1) s (following x) (following y) in
      record {
        leave = λ eq. (
          λ ne. (
            λ nz.
                let p = other_bad a b n m flag second k x y pair h.cursors (eq ∙ h.r11) (λ z. ne (h.r10 ∙ z)) (λ z. nz (h.r13 ∙ z)) in
                let l = left_read stay s x (one (k - 1) s x y) h.most p.0 (left_is stay _ _ h.most (compare_more k s x y p.1.some) h.left) in
                let l = left_unread stay s y (both (k - 1) s x y v) (h.most + 128) p.1.user l in
                stops stay (bad_pointer s y) (h.most + 128 + 128) s _ l h.quiet refl there (omega arith),
            λ z.
                let p = first_bad a b n m flag second k x y pair h.cursors (eq ∙ h.r11) (λ z. ne (h.r10 ∙ z)) (sym h.r13 ∙ z) in
                let l = left_unread stay s x (one (k - 1) s x y) h.most p.user (left_is stay _ _ h.most (compare_more k s x y p.some) h.left) in
                stops stay (bad_pointer s x) (h.most + 128) s _ l h.quiet refl there (omega arith),
          ),
          λ z.
              let l = left_is stay _ _ h.most (compare_none k s x y (both_done a b n m flag second k x y pair h.cursors (eq ∙ h.r11) (sym h.r10 ∙ z))) h.left in
              leaves stay (answered s 0) h.most s _ l h.quiet refl there (omega arith),
        );
        again = λ ne.
            let g = both_come a b n m flag second k x y pair h.cursors (λ q. ne (q ∙ sym h.r11)) in
            let l = left_read stay s x (one (k - 1) s x y) h.most g.user_x (left_is stay _ _ h.most (compare_more k s x y g.some) h.left) in
            let l = left_read stay s y (both (k - 1) s x y v) (h.most + 128) g.user_y l in
            let first : byte e.bytes (place x) ≡ v = user_byte s e.bytes there x g.user_x in
            let other : byte e.bytes (place y) ≡ w = user_byte s e.bytes there y g.user_y in
            let by : Bool → Stay = λ b. if b then (if nat_eq v 0 then answered s 0 else goes) else answered s (difference v w) in
            rw (g.here_x, g.sort_x, g.here_y, g.sort_y) (
              λ nq.
                  let ld = left_is stay _ _ (h.most + 128 + 128) (ap by (ne_eqb v w (λ q. nq (first ∙ q ∙ sym other)))) l in
                  leaves stay (answered s (difference v w)) (h.most + 128 + 128) s _ ld h.quiet (λ i. answered s (difference (sym first i) (sym other i))) there (omega arith),
              λ q.
                  let ls = left_is stay _ _ (h.most + 128 + 128) (ap by (eq-eqb v w (sym first ∙ q ∙ other))) l in (
                    λ z.
                        let lz = left_is stay _ _ (h.most + 128 + 128) (ap (λ b. if b then answered s 0 else goes) (eq-eqb v 0 (sym first ∙ z))) ls in
                        leaves stay (answered s 0) (h.most + 128 + 128) s _ lz h.quiet refl there (omega arith),
                    λ nz.
                        let ln = left_is stay _ _ (h.most + 128 + 128) (ap (λ b. if b then answered s 0 else goes) (ne_eqb v 0 (λ q. nz (first ∙ q)))) ls in (
                          k - 1,
                          g.less,
                          record { most = h.most + 128 + 128; left = ln; within = omega arith; bytes = h.bytes; quiet = h.quiet; r10 = h.r10; r11 = h.r11; r13 = h.r13; cursors = g.next },
                        ),
                  ),
            );
      }

  -- from where the loop is reached
  pub loops : (e : Run) → Left most_steps stay (compare_texts n s e.regs.r8 e.regs.r9) most_steps → e.bytes ≡ u → e.steps ≤ 1000 → ports e.seen ≡ []
      → e.regs.r8 ≡ a → e.regs.r9 ≡ b → e.regs.r10 ≡ flag → e.regs.r11 ≡ (a + m) % 2 ^ 32 → e.regs.r13 ≡ second → FromLoop C (tree NODES) G e
  loops e l bytes few quiet r8 r9 r10 r11 r13 =
      looped C know.fair (tree NODES) G Inv turn n e record {
        most = most_steps;
        left = l;
        within = omega arith;
        bytes = bytes;
        quiet = quiet;
        r10 = r10;
        r11 = r11;
        r13 = r13;
        cursors = record { first = ap (λ x. x + n) r8; other = ap (λ x. x + n) r9; most = omega arith; room = omega (arith, pair.most) };
      }

-- how a call with two pointers begins
pub null_first : (p q : ℕ) (x y : Stay) → p ≡ 0 → (if nat_eq p 0 || nat_eq q 0 then x else y) ≡ x
null_first p q x y e = ap (λ b. if b || nat_eq q 0 then x else y) (eq-eqb p 0 e)

pub null_other : (p q : ℕ) (x y : Stay) → (p ≡ 0 → ⊥) → q ≡ 0 → (if nat_eq p 0 || nat_eq q 0 then x else y) ≡ x
null_other p q x y ne e = ap (λ b. if b || nat_eq q 0 then x else y) (ne_eqb p 0 ne) ∙ null q x y e

pub none_null : (p q : ℕ) (x y : Stay) → (p ≡ 0 → ⊥) → (q ≡ 0 → ⊥) → (if nat_eq p 0 || nat_eq q 0 then x else y) ≡ y
none_null p q x y np nq = ap (λ b. if b || nat_eq q 0 then x else y) (ne_eqb p 0 np) ∙ not_null q x y nq

pub serves : Serves own most_steps (call A18) STRNCMP (tree NODES)
serves s d z m h =
    let C : Calls = calls kernel_words (own ++ tested_there) in
    let know : KnowsRoom ROOM C = knows_room ROOM tested_there in
    let a : ℕ = (registers_of s).r4 in
    let b : ℕ = (registers_of s).r5 in
    let n : ℕ = (registers_of s).r6 in
    let small_a : a < 2 ^ 32 = h.words 4 in
    let small_b : b < 2 ^ 32 = h.words 5 in
    let second : ℕ = truth (nat_lt (room b) (room a)) in
    let go : Stay = compare_texts (count_of n) s a b in
    let stay : Stay = strncmp s in
    start C know.fair (tree NODES) STRNCMP (λ _. ⊥) (λ to e. Through (strncmp s) most_steps to e) (begun (called_with (registers_of s) d) z m) (
      λ none. through stay most_steps _ _ refl (answers most_steps s _ stay (null_first a b (answered s 0) go none) h.holds (omega arith)),
      λ na. (
        λ none. through stay most_steps _ _ refl (answers most_steps s _ stay (null_other a b (answered s 0) go na none) h.holds (omega arith)),
        λ nb. (
          λ few. through stay most_steps _ _ refl (answers most_steps s _ stay (none_null a b (answered s 0) go na nb ∙ compare_none (count_of n) s a b (no_count n few)) h.holds (omega arith)),
          λ pos.
              let l = left_is stay _ _ most_steps (none_null a b (answered s 0) go na nb ∙ ap (λ k. compare_texts k s a b) (a_count n pos.1)) (left_all stay) in
              know.room _ _ _ _ _ _ _ small_b (λ x y p up. know.room _ _ _ _ _ _ _ small_a (λ f g q more. (
                λ nz.
                    let flag : ℕ = truth (nat_lt (room b) n) in
                    let less = true_then (room b) (room a) nz in (
                      λ z.
                          let fits = false_then (room b) n z in
                          let both = pair_all a b n flag second small_a small_b z (omega (arith, fits, less)) fits in
                          loops C know stay s m h.holds a b n n flag second both _ l refl (omega arith) refl refl refl refl refl refl,
                      λ ne.
                          let bad = pair_other a b n flag second small_a small_b ne nz (true_then (room b) n ne) less in
                          loops C know stay s m h.holds a b n (room b) flag second bad _ l refl (omega arith) refl refl refl refl refl refl,
                    ),
                λ nz.
                    let flag : ℕ = truth (nat_lt (room a) n) in
                    let le = false_then (room b) (room a) nz in (
                      λ z.
                          let fits = false_then (room a) n z in
                          let both = pair_all a b n flag second small_a small_b z fits (omega (arith, fits, le)) in
                          loops C know stay s m h.holds a b n n flag second both _ l refl (omega arith) refl refl refl refl refl refl,
                      λ ne.
                          let bad = pair_first a b n flag second small_a small_b ne nz (true_then (room a) n ne) le in
                          loops C know stay s m h.holds a b n (room a) flag second bad _ l refl (omega arith) refl refl refl refl refl refl,
                    ),
              ))),
        ),
      ),
    )
