-- The return of a function that the kernel called, at gate E0h; ReturnFromException; and a delivery that a program asks for (PSX-SPX, Kernel (BIOS), Interrupt/Exception Handling and Event Functions).
use Rattle.std.specs.Prelude.{ℕ, List, [], ◌∷◌, Option, Some, None}
use Rattle.psx_base.specs.declared.stop.Stop.TheVariants.{BadReturn}
use Rattle.psx_base.specs.KernelState.{ThreadContext, Scan, Frame, KernelState}
use Rattle.abs_kernel.specs.Stay.{Stay, Halt}
use Rattle.abs_kernel.specs.Answered.{registers_of}
use Rattle.abs_kernel.specs.TakingUp.{resumed}
use Rattle.abs_kernel.specs.Tasks.{work}

-- the innermost of the frames, which stands last, and those without it
abbrev pub innermost : List Frame → Option Frame
innermost [] = None
innermost (f ∷ []) = Some f
innermost (f ∷ g ∷ fs) = innermost (g ∷ fs)

abbrev pub without_innermost : List Frame → List Frame
without_innermost [] = []
without_innermost (f ∷ []) = []
without_innermost (f ∷ g ∷ fs) = f ∷ without_innermost (g ∷ fs)

abbrev pub popped : KernelState → KernelState
popped s = record s { frames = without_innermost s.frames }

-- the innermost frame is taken away, and what is given goes on with it; without one the run stops
abbrev pub pops_by : KernelState → (Frame → Stay) → Option Frame → Stay
pops_by s next None = Halt (BadReturn (registers_of s).r31) s.memory
pops_by s next (Some f) = next f

abbrev pub pops : KernelState → (Frame → Stay) → Stay
pops s next = pops_by s next (innermost s.frames)

-- at gate E0h the tasks of the innermost frame go on, with the function's answer
abbrev pub comes_back : KernelState → Stay
comes_back s = pops s (λ f. work (popped s) f.context f.tasks (registers_of s).r2 (registers_of s).r31)

-- ReturnFromException drops its tasks and takes up its context
abbrev pub return_from_exception : KernelState → Stay
return_from_exception s = pops s (λ f. resumed (popped s) f.context)

-- a delivery to the events of a class and spec, before a context is taken up
abbrev pub delivers : KernelState → (c : ThreadContext) → (class spec ra : ℕ) → Stay
delivers s c class spec ra = work s c (Scan class spec 0 ∷ []) 0 ra
