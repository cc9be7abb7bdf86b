-- How a call returns to the program. The running context is settled.
use Rattle.std.specs.Prelude.{ℕ}
use Rattle.psx_base.specs.Registers.{Registers}
use Rattle.psx_base.specs.Context.{Context, epc_of, taken}
use Rattle.psx_base.specs.KernelState.{KernelState}
use Rattle.abs_kernel.specs.Stay.{Stay, Return}

-- the running registers
abbrev pub registers_of : KernelState → Registers
registers_of s = s.running.context.regs

-- the state with another running context, its interrupts as they are
abbrev pub with_running : KernelState → Context → KernelState
with_running s c = record s { running = record s.running { context = c } }

-- a context with an answer in r2
abbrev pub with_answer : Context → ℕ → Context
with_answer c value = record c { regs = record c.regs { r2 = value } }

-- the program goes on at an address: k0 is the address and k1 is 0
abbrev pub goes_on : KernelState → (at : ℕ) → Stay
goes_on s at = Return (with_running s (taken s.running.context at))

-- the answer goes to r2, the program goes on at r31, and all else stays
abbrev pub answered : KernelState → (value : ℕ) → Stay
answered s value = Return (with_running s (with_answer (taken s.running.context (registers_of s).r31) value))

-- a waiting call that isn't ready: the program goes on at its gate, with the call again
abbrev pub waits : KernelState → Stay
waits s = goes_on s (epc_of s.running.context)
