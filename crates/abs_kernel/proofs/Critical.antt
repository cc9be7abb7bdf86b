-- SYSCALL 1 and a later SYSCALL 2 give the interrupt state back.
use Rattle.std.proofs.Common.{◌≡◌, ℕ, Bool, true, false, refl, sym, ap, ◌∙◌, arith}
use Rattle.std.specs.Prelude.{if◌then◌else◌}
use Rattle.psx_base.specs.Items.{Entrance, BySyscall}
use Rattle.psx_base.specs.KernelState.{KernelState}
use Rattle.abs_kernel.specs.Cause.{entrance_of}
use Rattle.abs_kernel.specs.Stay.{Stay, Return, Halt, Ask, Tell, Write, Touch}
use Rattle.abs_kernel.specs.Sys.{syscall}
use Rattle.abs_kernel.specs.KernelStep.{settled_state, by_entrance, stay_of}
use Rattle.abs_kernel.specs.StayLaws.{settled_registers}
use Rattle.abs_kernel.specs.ProgramLaws.{InterruptsGivenBack}

-- the stay of a SYSCALL is that of its number
stay_is : (s : KernelState) (code n : ℕ) → entrance_of s.running.context code ≡ BySyscall → (settled_registers s).r4 ≡ n → stay_of s code ≡ syscall n (settled_state s)
unfolding stay_of
stay_is s code n e h = ap (λ (by : Entrance). by_entrance by code (settled_state s)) e ∙ ap (λ m. syscall m (settled_state s)) h

-- the interrupts of a state that a stay returns with at once
returned_interrupts : Stay → Bool
returned_interrupts (Return t) = t.running.interrupts
returned_interrupts (Halt stop memory) = true
returned_interrupts (Ask port next) = true
returned_interrupts (Tell port value next) = true
returned_interrupts (Write byte next) = true
returned_interrupts (Touch bytes next) = true

turned_on : (later last : KernelState) (code : ℕ) → entrance_of later.running.context code ≡ BySyscall → (settled_registers later).r4 ≡ 2 → stay_of later code ≡ Return last → last.running.interrupts ≡ true
unfolding returned_interrupts
turned_on later last code e h r = ap returned_interrupts (sym r ∙ stay_is later code 2 e h)

-- what SYSCALL 1 answers
abbrev answer_of : Bool → ℕ
answer_of on = if on then 1 else 0

was_on : (on : Bool) → answer_of on ≡ 1 → on ≡ true
was_on true h = refl
was_on false h = absurd (omega arith)

was_off : (on : Bool) → answer_of on ≡ 0 → on ≡ false
was_off false h = refl
was_off true h = absurd (omega arith)

pub interrupts_given_back : InterruptsGivenBack
interrupts_given_back s code e h = (
  _,
  stay_is s code 1 e h,
  record {
    off = refl;
    was_on = λ a later last code' e' h' r. turned_on later last code' e' h' r ∙ sym (was_on s.running.interrupts a);
    was_off = λ a. sym (was_off s.running.interrupts a);
  },
)
