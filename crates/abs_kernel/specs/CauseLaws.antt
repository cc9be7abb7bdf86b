-- What the processor keeps of an entry, and that it tells by what the kernel was entered (R3000A manual, exception processing).
use Rattle.std.specs.Prelude.{◌≡◌, ℕ, ◌/◌, ◌%◌, ◌^◌, ◌<◌, nat_le}
use Rattle.psx_base.specs.Context.{Context}
use Rattle.psx_base.specs.Entrances.{entrance, number}
use Rattle.psx_cpu.specs.Processor.{Processor, Trap}
use Rattle.psx_cpu.specs.Exceptions.{enter}
use Rattle.abs_kernel.specs.Cause.{Entry, entry_of}

-- a processor has an entry with a code in Cause, EPC and its registers
pub record Keeps (p : Processor) (code : ℕ) (e : Entry) : Type 0 where
  pub cause : p.cop0.cause ≡ e.cause
  pub epc : p.cop0.epc ≡ e.epc
  pub named : number e.gate code p.context.regs ≡ e.number

abbrev pub EntriesKept : Type 0
EntriesKept = (p : Processor) (trap : Trap) → Keeps (enter p trap) trap.code (entry_of p.context trap.code)

-- Cause and EPC tell the code and by what the kernel was entered
pub record Tells (e : Entry) (raised : ℕ) : Type 0 where
  pub code : e.cause / 4 % 32 ≡ raised
  pub gate : entrance raised (nat_le (2 ^ 31) e.cause) e.epc ≡ e.gate

abbrev pub EntriesTold : Type 0
EntriesTold = (c : Context) (code : ℕ) → code < 32 → Tells (entry_of c code) code
