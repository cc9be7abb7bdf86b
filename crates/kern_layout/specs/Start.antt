-- The kernel's state as a program begins.
use Rattle.std.specs.Prelude.{ℕ, ◌≤◌, ◌+◌, ◌-◌, ◌%◌, ◌^◌, true, false, [], ◌∷◌, replicate, Some, None}
use Rattle.psx_base.specs.declared.stop.Sizes.{Sizes}
use Rattle.psx_base.specs.Memory.{Memory}
use Rattle.psx_base.specs.Registers.{no_registers}
use Rattle.psx_base.specs.KernelState.{ThreadContext, Free, Used, KernelState}
use Rattle.kern_layout.specs.Reads.{no_event}

-- what a program begins with: the header's pc and gp, and its stack; r4 is 1, and r31 the gate by which it returns
abbrev pub opening : (pc gp stack : ℕ) → ThreadContext
opening pc gp stack = record { context = record { regs = record no_registers { r4 = 1; r26 = pc; r28 = gp; r29 = stack; r30 = stack; r31 = 0xD0 }; pending = None; pc = pc; next = (pc + 4) % 2 ^ 32; in_slot = false }; interrupts = true }

-- thread 0 runs and keeps the opening values, the other threads and all events are free, files 0 and 1 are open, and nothing else is there
abbrev pub start : (pc gp stack : ℕ) → Memory → Sizes → KernelState
start pc gp stack memory sizes = record {
  memory = memory;
  running = opening pc gp stack;
  threads = Used (opening pc gp stack) ∷ replicate (sizes.threads - 1) Free;
  current = 0;
  next = None;
  events = replicate sizes.events no_event;
  frames = [];
  chains = [] ∷ [] ∷ [] ∷ [] ∷ [];
  heap = record { base = 0; blocks = [] };
  files = Some 1 ∷ Some 2 ∷ replicate 14 None;
  random = 0;
  token = 0;
  line = [];
  errno = 0;
}

-- the sizes of the two tables
pub record SizesFit (sizes : Sizes) : Type 0 where
  pub threads_least : 4 ≤ sizes.threads
  pub threads_most : sizes.threads ≤ 16
  pub events_least : 16 ≤ sizes.events
  pub events_most : sizes.events ≤ 64
