-- That the kernel's words make the stays of the written kernel machine.
use Rattle.std.specs.Prelude.{◌≡◌, ℕ, List}
use Rattle.psx_base.specs.KernelState.{KernelState}
use Rattle.psx_cpu.specs.Processor.{Core, Trap}
use Rattle.kern_layout.specs.Valid.{Valid}
use Rattle.kern_layout.specs.Stands.{Stands}
use Rattle.abs_kernel.specs.KernelStep.{stay_of}
use Rattle.abs_run.specs.InWords.{CoreFits}
use Rattle.abs_run.specs.InKernel.{side_of}
use Rattle.abs_run.specs.Entered.{MayEnter, bound_of}
use Rattle.abs_run.specs.Serves.{Runs, Finishes, most_interrupt_steps, entered}

-- Every entry is served: from each processor with its memory, of words and bytes, that stands for a valid state, by each exception that may enter the kernel there.
abbrev pub MakesStays : List ℕ → Type 0
MakesStays rom =
    (k : Core) (s : KernelState) (trap : Trap) (a b c : ℕ) → Valid s → CoreFits k → Stands (side_of k) k.bytes s rom → MayEnter s trap → Runs rom (stay_of s trap.code) (bound_of s trap.code) (entered k trap a b c)

-- And every interrupt's words return, or end the run, within the steps of an interrupt, whatever the bus brings at each of them.
abbrev pub InterruptsFinish : List ℕ → Type 0
InterruptsFinish rom =
    (k : Core) (s : KernelState) (trap : Trap) (a b c : ℕ) → Valid s → CoreFits k → Stands (side_of k) k.bytes s rom → MayEnter s trap → trap.code ≡ 0 → Finishes most_interrupt_steps (entered k trap a b c)
