-- The list form of stays.
use Rattle.std.proofs.Common.{◌≡◌, ℕ, List, [], ◌∷◌, refl, ap, subst}
use Rattle.psx_base.specs.declared.stop.Stop.{Stop}
use Rattle.psx_base.specs.Memory.{Memory}
use Rattle.psx_base.specs.KernelState.{KernelState}
use Rattle.kern_layout.specs.Valid.{Valid}
use Rattle.abs_kernel.specs.Stay.{Stay, Return, Halt, Ask, Tell, Write, Touch}
use Rattle.abs_kernel.specs.KernelStep.{stay_of}
use Rattle.abs_kernel.specs.Changes.{changed, Changed}
use Rattle.abs_kernel.specs.Played.{Asked, Told, Written, End, Returned, Halted, Short, after, played}
use Rattle.abs_kernel.specs.StayLaws.{EachEnd}
use Rattle.abs_kernel.specs.PlayedLaws.{PlayedKeeps, HaltedKeeps, AnswersInOrder, MoreAnswers, EnoughAnswers}
use Rattle.abs_kernel.proofs.Ends.{Any, rest_kept, memory_kept, valid_kept}

-- what holds of each end of a stay, of the end with a list of answers
abbrev pub OfEnd : (KernelState → Type 0) → (Stop → Memory → Type 0) → End → Type 0
OfEnd P Q (Returned state) = P state
OfEnd P Q (Halted stop memory) = Q stop memory
OfEnd P Q Short = Unit {0}

pub of_end : (P : KernelState → Type 0) (Q : Stop → Memory → Type 0) (stay : Stay) (answers : List ℕ) → EachEnd P Q stay → OfEnd P Q (played stay answers).end
of_end P Q (Return state) answers h = h
of_end P Q (Halt stop memory) answers h = h
of_end P Q (Ask port next) [] h = tt
of_end P Q (Ask port next) (value ∷ answers) h = of_end P Q (next value) answers (h value)
of_end P Q (Tell port value next) answers h = of_end P Q next answers h
of_end P Q (Write byte next) answers h = of_end P Q next answers h
of_end P Q (Touch bytes next) answers h = of_end P Q next answers h

pub of_end_is : (P : KernelState → Type 0) (Q : Stop → Memory → Type 0) (stay : Stay) (answers : List ℕ) (end : End) → EachEnd P Q stay → (played stay answers).end ≡ end → OfEnd P Q end
of_end_is P Q stay answers end h e = subst (OfEnd P Q) e (of_end P Q stay answers h)

pub played_keeps : PlayedKeeps
played_keeps s t code answers e = (λ v. of_end_is Valid Any (stay_of s code) answers (Returned t) (valid_kept s code v) e, of_end_is (Changed (changed s code) s) Any (stay_of s code) answers (Returned t) (rest_kept s code) e)

pub halted_keeps : HaltedKeeps
halted_keeps s code answers stop memory h e = of_end_is (λ t. t.memory ≡ s.memory) (λ last m. m ≡ s.memory) (stay_of s code) answers (Halted stop memory) (memory_kept s code h) e

pub answers_in_order : AnswersInOrder
answers_in_order (Return state) answers = (answers, refl)
answers_in_order (Halt stop memory) answers = (answers, refl)
answers_in_order (Ask port next) [] = ([], refl)
answers_in_order (Ask port next) (value ∷ answers) = let r = answers_in_order (next value) answers in (r.0, ap (λ l. value ∷ l) r.1)
answers_in_order (Tell port value next) answers = let r = answers_in_order next answers in (r.0, r.1)
answers_in_order (Write byte next) answers = let r = answers_in_order next answers in (r.0, r.1)
answers_in_order (Touch bytes next) answers = answers_in_order next answers

pub more_answers : MoreAnswers
more_answers (Return state) answers more = ([], refl)
more_answers (Halt stop memory) answers more = ([], refl)
more_answers (Ask port next) [] more = ((played (Ask port next) more).accesses, refl)
more_answers (Ask port next) (value ∷ answers) more = let r = more_answers (next value) answers more in (r.0, ap (λ l. Asked port value ∷ l) r.1)
more_answers (Tell port value next) answers more = let r = more_answers next answers more in (r.0, ap (λ l. Told port value ∷ l) r.1)
more_answers (Write byte next) answers more = let r = more_answers next answers more in (r.0, ap (λ l. Written byte ∷ l) r.1)
more_answers (Touch bytes next) answers more = more_answers next answers more

pub enough_answers : EnoughAnswers
enough_answers (Return state) answers more h = refl
enough_answers (Halt stop memory) answers more h = refl
enough_answers (Ask port next) [] more h = absurd (h refl)
enough_answers (Ask port next) (value ∷ answers) more h = ap (after (Asked port value)) (enough_answers (next value) answers more h)
enough_answers (Tell port value next) answers more h = ap (after (Told port value)) (enough_answers next answers more h)
enough_answers (Write byte next) answers more h = ap (after (Written byte)) (enough_answers next answers more h)
enough_answers (Touch bytes next) answers more h = enough_answers next answers more h
