-- The words of the kernel's side with a list of port answers.
use Rattle.std.specs.Prelude.{◌≡◌, ◌≢◌, ℕ, zero, suc, ◌+◌, ◌*◌, ◌^◌, ◌<◌, Bool, List, [], ◌∷◌}
use Rattle.psx_base.specs.Memory.{Memory}
use Rattle.psx_base.specs.KernelState.{KernelState}
use Rattle.psx_cpu.specs.Processor.{Bus}
use Rattle.psx_cpu.specs.Step.{step}
use Rattle.kern_layout.specs.Stands.{SameUser, Stands}
use Rattle.abs_kernel.specs.Stay.{Stay}
use Rattle.abs_kernel.specs.Played.{Access, Asked, Told, Written, End, Returned, Halted, Short, played}
use Rattle.abs_kernel.specs.Touched.{touched}
use Rattle.abs_run.specs.InKernel.{InKernel, side_of, Sign, Nothing, PortRead, PortWritten, Printed, LeftKernel, EndedRun, sign_of}

-- each answer is a word
abbrev pub AreWords : List ℕ → Type 0
AreWords [] = Unit {0}
AreWords (value ∷ answers) = (value < 2 ^ 32) × AreWords answers

-- what the bus brings: the first answer that is left, for a step that reads a port
abbrev pub brings : Bool → List ℕ → Bus
brings line [] = record { line = line; value = 0 }
brings line (value ∷ answers) = record { line = line; value = value }

-- a step with the answers that are left, the accesses that are still to be made, and the end: a read takes the first answer
abbrev pub StepOn : List ℕ → Sign → List ℕ → List Access → End → (InKernel → List ℕ → List Access → Type 0) → Type 0
StepOn rom (Nothing next) answers accesses end on = on next answers accesses
StepOn rom (PortRead next at value) (answer ∷ answers) accesses end on = (more : List Access) × (accesses ≡ Asked at answer ∷ more) × on next answers more
StepOn rom (PortWritten next at value) answers accesses end on = (more : List Access) × (accesses ≡ Told at value ∷ more) × on next answers more
StepOn rom (Printed next byte) answers accesses end on = (more : List Access) × (accesses ≡ Written byte ∷ more) × on next answers more
StepOn rom (LeftKernel next) answers accesses end on = (state : KernelState) × (accesses ≡ []) × (end ≡ Returned state) × Stands (side_of next) next.bytes state rom
StepOn rom (EndedRun next stop) answers accesses end on = (memory : Memory) × (accesses ≡ []) × (end ≡ Halted stop memory) × SameUser next.bytes memory
StepOn rom _ answers accesses end on = ⊥

-- in at most so many steps, with these lines and answers, the words make exactly these accesses and end so
abbrev pub RunsListed : List ℕ → (most : ℕ) → (ℕ → Bool) → InKernel → List ℕ → List Access → End → Type 0
RunsListed rom zero lines k answers accesses end = ⊥
RunsListed rom (suc most) lines k answers accesses end =
    StepOn rom (sign_of k (step k.core (brings (lines 0) answers))) answers accesses end (λ next left more. RunsListed rom most (λ i. lines (suc i)) next left more end)

-- for each list of answers with which the stay isn't short, and whatever the interrupt line shows at each step
abbrev pub ServesLists : List ℕ → Stay → (bound : ℕ) → InKernel → Type 0
ServesLists rom stay bound k =
    (lines : ℕ → Bool) (answers : List ℕ) → AreWords answers → (played stay answers).end ≢ Short
    → RunsListed rom (bound + 128 * touched stay answers) lines k answers (played stay answers).accesses (played stay answers).end
