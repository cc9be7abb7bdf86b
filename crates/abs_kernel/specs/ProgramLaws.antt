-- What a program sees of some calls: critical sections, and calls that wait.
use Rattle.std.specs.Prelude.{◌≡◌, ℕ, false}
use Rattle.psx_base.specs.Items.{BySyscall}
use Rattle.psx_base.specs.KernelState.{KernelState}
use Rattle.abs_kernel.specs.Cause.{entrance_of, entry_of}
use Rattle.abs_kernel.specs.Stay.{Return}
use Rattle.abs_kernel.specs.Answered.{waits}
use Rattle.abs_kernel.specs.KernelStep.{settled_state, stay_of}
use Rattle.abs_kernel.specs.StayLaws.{settled_registers}

-- SYSCALL 1 turns interrupts off and answers what they were, and SYSCALL 2 turns them on. So where the first answered 1, a later second gives the state back,
-- and where it answered 0, the state is as it was.
pub record CriticalSection (s t : KernelState) : Type 0 where
  pub off : t.running.interrupts ≡ false
  pub was_on : t.running.context.regs.r2 ≡ 1 → (later last : KernelState) (code : ℕ) → entrance_of later.running.context code ≡ BySyscall → (settled_registers later).r4 ≡ 2 → stay_of later code ≡ Return last → last.running.interrupts ≡ s.running.interrupts
  pub was_off : t.running.context.regs.r2 ≡ 0 → t.running.interrupts ≡ s.running.interrupts

abbrev pub InterruptsGivenBack : Type 0
InterruptsGivenBack = (s : KernelState) (code : ℕ) → entrance_of s.running.context code ≡ BySyscall → (settled_registers s).r4 ≡ 1 → (t : KernelState) × (stay_of s code ≡ Return t) × CriticalSection s t

-- A call that waits is entered again as before: from the state that it returns with, the coming entry is the same.
abbrev pub EnteredAgain : Type 0
EnteredAgain = (s : KernelState) (code : ℕ) → s.running.context.in_slot ≡ false → (t : KernelState) × (waits (settled_state s) ≡ Return t) × (entry_of t.running.context code ≡ entry_of s.running.context code)
