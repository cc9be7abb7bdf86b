-- An interrupt (PSX-SPX, Interrupt Control: I_STAT and I_MASK; Kernel (BIOS), Interrupt/Exception Handling: the chains of handlers).
use Rattle.std.specs.Prelude.{ℕ, ◌^◌, Bool, not, nat_eq, bit_and, List, [], ◌∷◌, ◌++◌, map}
use Rattle.std.specs.List.{concat, filter}
use Rattle.psx_base.specs.Ports.{I_STAT, I_MASK}
use Rattle.psx_base.specs.Context.{epc_of, taken}
use Rattle.psx_base.specs.KernelState.{Task, Element, Line, KernelState}
use Rattle.abs_kernel.specs.Stay.{Stay, Ask}
use Rattle.abs_kernel.specs.Answered.{with_running}
use Rattle.abs_kernel.specs.Tasks.{work}

-- the program at rest where it will go on: at the interrupted instruction, and in a slot at its branch; its interrupts are as they were
abbrev pub interrupted : KernelState → KernelState
interrupted s = with_running s (taken s.running.context (epc_of s.running.context))

-- the lines that are handled, in order: VBLANK, and the counters 0 to 2
abbrev pub handled : List ℕ
handled = 0 ∷ 4 ∷ 5 ∷ 6 ∷ []

-- a line is due where it is pending and enabled: both words have its bit
abbrev pub is_due : (stat mask line : ℕ) → Bool
is_due stat mask line = not (nat_eq (bit_and (bit_and stat mask) (2 ^ line)) 0)

-- the elements of the chains, each chain from its head, and then the lines that are due
abbrev pub interrupt_tasks : KernelState → (stat mask : ℕ) → List Task
interrupt_tasks s stat mask = map Element (concat s.chains) ++ map Line (filter (is_due stat mask) handled)

-- these are done before the context is taken up that runs in the state; a stop names its address
abbrev pub handles_interrupt : KernelState → Stay
handles_interrupt s = Ask I_STAT (λ stat. Ask I_MASK (λ mask. work s s.running (interrupt_tasks s stat mask) 0 s.running.context.pc))

-- an interrupt of a settled state
abbrev pub interrupts : KernelState → Stay
interrupts s = handles_interrupt (interrupted s)
