-- setjmp meets its stay.
use Rattle.psx_flow.proofs.Kit.{◌≡◌, ℕ, suc, ◌+◌, ◌^◌, ◌<◌, ◌≤◌, ◌++◌, List, [], ◌∷◌, refl, sym, ◌∙◌, arith, Memory, word, put_word, Run, Goal, Calls, calls, place, kernel_words, start}
use Rattle.std.proofs.Common.{zero}
use Rattle.psx_base.specs.KernelState.{KernelState}
use Rattle.psx_flow.specs.Told.{ports}
use Rattle.psx_flow.proofs.Knows.{Knows}
use Rattle.kern_layout.specs.Valid.{Valid}
use Rattle.abs_kernel.proofs.Moved.{valid_moved}
use Rattle.abs_kernel.specs.Stay.{Stay}
use Rattle.abs_kernel.specs.Answered.{registers_of, answered}
use Rattle.abs_kernel.specs.UserBytes.{bad_pointer}
use Rattle.abs_kernel.specs.UserWords.{writes_word}
use Rattle.abs_kernel.specs.Jumps.{following_word, setjmp}
use Rattle.abs_kernel.specs.declared.calls.CallId.TheVariants.{A13}
use Rattle.abs_kernel.specs.Calls.{call}
use Rattle.kern_stay.specs.Shared.{tree, tested_there}
use Rattle.kern_stay.specs.Doors.{Holds, Through, Serves, called_with, begun, most_steps}
use Rattle.kern_stay.proofs.Accessing.{places, knows_accesses}
use Rattle.kern_stay.proofs.Ending.{Left, left_all, left_is}
use Rattle.kern_stay.proofs.Looping.{leaves, stops}
use Rattle.kern_stay.proofs.UserWords.{good_is, word_of_user, holds_word, left_word_written, left_word_unwritten}
use Rattle.kern_mem.specs.declared.places.TheConstants.{SETJMP}
use Rattle.kern_mem.specs.declared.a13_setjmp.TheConstants.{NODES}
use Rattle.kern_mem.proofs.WordLoop.{TurningAt, FromLoopAt, looped_at, moving_up, moving}

-- the state with its memory so far
abbrev now : KernelState → Memory → KernelState
now s u = record s { memory = u }

-- the first k of a list are written, of which each goes behind the last
abbrev write : (k : ℕ) → List ℕ → KernelState → (at : ℕ) → Stay
write zero ws s at = answered s 0
write (suc k) [] s at = answered s 0
write (suc k) (w ∷ ws) s at = writes_word s at w (λ t. write k (ws ++ w ∷ []) t (following_word at))

-- at the loop's head, with k words to come
record Head (stay : Stay) (s : KernelState) (k : ℕ) (e : Run) : Type 0 where
  memory : Memory
  holds : Holds (now s memory) e.bytes
  most : ℕ
  left : Left most_steps stay (write k (moving e.regs) (now s memory) e.regs.r8) most
  within : e.steps + 64 ≤ most
  quiet : ports e.seen ≡ []
  few : k ≤ 12
  r25 : e.regs.r25 ≡ k
  small : e.regs.r8 < 2 ^ 32

module _ (C : Calls) (know : Knows places C) (at : ℕ) (stay : Stay) (s : KernelState) (valid : Valid s) where
  abbrev G : ℕ → Goal
  G to e = Through stay most_steps to e

  abbrev Inv : ℕ → Goal
  Inv k e = Head stay s k e

  turn : (k : ℕ) (e : Run) → Inv k e → TurningAt C (tree NODES) at G Inv k e
  turn zero e h = record {
    leave = λ eq. (let few = h.within in leaves stay _ h.most (now s h.memory) _ h.left h.quiet refl h.holds (omega arith));
    again = λ ne. absurd (ne h.r25);
  }
  turn (suc k) e h =
      let x : ℕ = e.regs.r8 in
      let t : KernelState = now s h.memory in
      let v : ℕ = e.regs.r13 in
      let next : KernelState → Stay = λ u. write k (moving_up e.regs ++ v ∷ []) u (following_word x) in
      let within = h.within in
      let small = h.small in
      record {
        leave = λ eq. absurd (omega (arith, eq, h.r25));
        again = λ ne. know.write_word _ _ _ _ _ _ _ small record {
          good = λ g y z. (
            λ none. absurd (omega (arith, none)),
            λ some.
                let u = sym (good_is x) ∙ g in
                let kept : Valid t = valid_moved s h.memory s.random s.running valid valid.running in (
                  k,
                  omega arith,
                  record {
                    memory = put_word h.memory (place x) v;
                    holds = holds_word t kept e.bytes h.holds x v (word_of_user x u).1;
                    most = h.most + 512;
                    left = left_word_written stay t x v next h.most u h.left;
                    within = omega arith;
                    quiet = h.quiet;
                    few = omega (arith, h.few);
                    r25 = omega (arith, h.r25, h.few);
                    small = omega arith;
                  },
                ),
          );
          bad = λ b y z. (
            λ none.
                let l = left_word_unwritten stay t x v next h.most (sym (good_is x) ∙ b) h.left in
                stops stay (bad_pointer t x) (h.most + 512) t _ l h.quiet refl h.holds (omega arith),
            λ some. absurd (some refl),
          );
        };
      }

  -- from where the loop is reached
  loops : (e : Run) → Left most_steps stay (write 12 (moving e.regs) s e.regs.r8) most_steps → Holds s e.bytes → e.steps ≤ 100 → ports e.seen ≡ []
      → e.regs.r25 ≡ 12 → e.regs.r8 < 2 ^ 32 → FromLoopAt C (tree NODES) at G e
  loops e l holds few quiet r25 small =
      looped_at C know.fair (tree NODES) at G Inv turn 12 e
      record { memory = s.memory; holds = holds; most = most_steps; left = l; within = omega arith; quiet = quiet; few = omega arith; r25 = r25; small = small }

-- the words are those of the work area
begins : (s : KernelState) (m : Memory) → Holds s m
    → setjmp s ≡ write 12 (word m 0xEB84 ∷ word m 0xEB7C ∷ word m 0xEB80 ∷ word m 0xEB48 ∷ word m 0xEB4C ∷ word m 0xEB50 ∷ word m 0xEB54
    ∷ word m 0xEB58 ∷ word m 0xEB5C ∷ word m 0xEB60 ∷ word m 0xEB64 ∷ word m 0xEB78 ∷ []) s (registers_of s).r4
begins s m h =
    let from16 = h.area.1.1.1.1.1.1.1.1.1.1.1.1.1.1.1 in
    let from28 = from16.1.1.1.1.1.1.1.1.1.1 in
    λ i. write 12 (
    sym (from28.1.1.1.0) i ∷ sym (from28.1.0) i ∷ sym (from28.1.1.0) i ∷ sym (from16.0) i ∷ sym (from16.1.0) i ∷ sym (from16.1.1.0) i ∷ sym (from16.1.1.1.0) i
    ∷ sym (from16.1.1.1.1.0) i ∷ sym (from16.1.1.1.1.1.0) i ∷ sym (from16.1.1.1.1.1.1.0) i ∷ sym (from16.1.1.1.1.1.1.1.0) i ∷ sym (from28.0) i ∷ []
    ) s (registers_of s).r4

pub serves : Serves [] most_steps (call A13) SETJMP (tree NODES)
serves s d z m h =
    let C : Calls = calls kernel_words ([] ++ tested_there) in
    let know : Knows places C = knows_accesses [] refl in
    start C know.fair (tree NODES) SETJMP (λ _. ⊥) (λ to e. Through (setjmp s) most_steps to e) (begun (called_with (registers_of s) d) z m)
    (loops C know (SETJMP + 60) (setjmp s) s h.valid _ (left_is (setjmp s) _ _ most_steps (begins s m h.holds) (left_all (setjmp s))) h.holds (omega arith) refl refl (h.words 4))
