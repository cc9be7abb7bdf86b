-- What an entry of a context into the kernel shows (R3000A manual, exception processing).
use Rattle.std.specs.Prelude.{ℕ}
use Rattle.psx_base.specs.Context.{Context, settle, epc_of}
use Rattle.psx_base.specs.Items.{Entrance}
use Rattle.psx_base.specs.Entrances.{entrance, number}
use Rattle.psx_cpu.specs.Exceptions.{cause_of}

-- by what a context enters the kernel with a code
abbrev pub entrance_of : Context → (code : ℕ) → Entrance
entrance_of c code = entrance code c.in_slot (epc_of c)

-- an entry: the Cause register but for bit 10, EPC, by what it came, and its number, read from the settled registers
pub record Entry : Type 0 where
  pub cause : ℕ
  pub epc : ℕ
  pub gate : Entrance
  pub number : ℕ

abbrev pub entry_of : Context → (code : ℕ) → Entry
entry_of c code = record { cause = cause_of code c.in_slot; epc = epc_of c; gate = entrance_of c code; number = number (entrance_of c code) code (settle c).regs }
