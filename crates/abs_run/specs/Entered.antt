-- Entries into the kernel out of a state of the user side.
use Rattle.std.specs.Prelude.{◌≡◌, ◌⊎◌, ℕ, zero, suc, ◌+◌, ◌^◌, Bool, true, None, ◌||◌, nat_eq, if◌then◌else◌}
use Rattle.psx_base.specs.Context.{Context}
use Rattle.psx_base.specs.Memory.{Memory}
use Rattle.psx_base.specs.Items.{Entrance, ByA, ByB, ByC, BySyscall, ByInterrupt, ByDone, ByBack, ByTrap}
use Rattle.psx_base.specs.KernelState.{KernelState}
use Rattle.psx_cpu.specs.Processor.{Trap}
use Rattle.psx_cpu.specs.UserStep.{UserMove, Next, Raises, user_step}
use Rattle.abs_kernel.specs.Cause.{Entry, entry_of}
use Rattle.abs_kernel.specs.UserLaws.{stepped}

-- the coming user step
abbrev pub coming : KernelState → UserMove
coming s = user_step s.running.context s.memory

-- k user steps, each neither exception nor stop
abbrev pub UserSteps : ℕ → KernelState → KernelState → Type 0
UserSteps zero s t = t ≡ s
UserSteps (suc k) s t = (c : Context) × (m : Memory) × (coming s ≡ Next c m) × UserSteps k (stepped s c m) t

-- the exception of an interrupt
abbrev pub interrupt : Trap
interrupt = record { code = 0; bad = None }

-- the kernel may be entered by this exception: the coming user step raises it, or it is an interrupt, and interrupts are on
abbrev pub MayEnter : KernelState → Trap → Type 0
MayEnter s trap = (coming s ≡ Raises trap) ⊎ ((trap ≡ interrupt) × (s.running.interrupts ≡ true))

-- a line of the trace shows an entry; bit 10 of Cause, the interrupt line, is the line's own
pub record Shows (e : Entry) (cause epc : ℕ) (gate : Entrance) (number : ℕ) : Type 0 where
  pub line : Bool
  pub causes : cause ≡ e.cause + (if line then 2 ^ 10 else 0)
  pub at : epc ≡ e.epc
  pub by : gate ≡ e.gate
  pub named : number ≡ e.number

-- the calls of the heap: malloc, free, calloc, realloc and InitHeap, by the gate A0h (PSX-SPX, Kernel (BIOS), Memory Allocation)
abbrev pub is_heap_number : ℕ → Bool
is_heap_number n = nat_eq n 0x33 || (nat_eq n 0x34 || (nat_eq n 0x37 || (nat_eq n 0x38 || nat_eq n 0x39)))

-- how many steps a stay may take, but for what it touches
abbrev pub bound_by : Entrance → ℕ → ℕ
bound_by ByA number = if is_heap_number number then 36864 else 20480
bound_by ByB number = 20480
bound_by ByC number = 20480
bound_by BySyscall number = 20480
bound_by ByInterrupt number = 20480
bound_by ByDone number = 20480
bound_by ByBack number = 20480
bound_by ByTrap number = 20480

abbrev pub bound_of : KernelState → (code : ℕ) → ℕ
bound_of s code = let e = entry_of s.running.context code in bound_by e.gate e.number
