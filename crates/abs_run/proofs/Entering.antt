-- The item of an entry shows the entry.
use Rattle.std.proofs.Common.{◌≡◌, ℕ, ◌+◌, ◌^◌, Bool, true, false, refl, ap, ◌∙◌}
use Rattle.std.specs.Prelude.{if◌then◌else◌, nat_eq, nat_le}
use Rattle.std.proofs.lemmas.Bool.{eqb-true}
use Rattle.psx_base.specs.Addresses.{gate_of}
use Rattle.psx_base.specs.Memory.{Memory}
use Rattle.psx_base.specs.Context.{settle, epc_of}
use Rattle.psx_base.specs.Items.{Entrance, ByInterrupt, ByTrap, Item, E}
use Rattle.psx_base.specs.Entrances.{by_syscall, number}
use Rattle.psx_cpu.specs.Processor.{Processor, Trap}
use Rattle.psx_cpu.specs.Exceptions.{enter, cause_of}
use Rattle.psx_board.specs.Entries as board
use Rattle.abs_kernel.specs.Cause.{Entry, entry_of}

-- the line of the trace for an entry
abbrev pub item_of : (count : ℕ) → Bool → Entry → Item
item_of count line e = E count (e.cause + (if line then 2 ^ 10 else 0)) e.epc e.gate e.number

slot_told : (slot : Bool) → nat_le (2 ^ 31) (cause_of 8 slot) ≡ slot
slot_told true = refl
slot_told false = refl

-- Cause tells whether a SYSCALL was in a delay slot
entrance_told : (code : ℕ) (slot : Bool) (epc : ℕ) (eight : Bool) → nat_eq code 8 ≡ eight →
    (if nat_eq code 0 then ByInterrupt else (if eight then by_syscall (nat_le (2 ^ 31) (cause_of code slot)) (gate_of epc) else ByTrap))
    ≡ (if nat_eq code 0 then ByInterrupt else (if eight then by_syscall slot (gate_of epc) else ByTrap))
entrance_told code slot epc true e =
    ap (λ (b : Bool). if nat_eq code 0 then ByInterrupt else by_syscall b (gate_of epc)) (ap (λ (n : ℕ). nat_le (2 ^ 31) (cause_of n slot)) (eqb-true code 8 e) ∙ slot_told slot)
entrance_told code slot epc false e = refl

pub entry-is : (count : ℕ) (line : Bool) (p : Processor) (trap : Trap) (m : Memory) → board.entry count trap.code line (record { processor = enter p trap; bytes = m }) ≡ item_of count line (entry_of p.context trap.code)
entry-is count line p trap m =
    ap (λ (gate : Entrance). E count (cause_of trap.code p.context.in_slot + (if line then 2 ^ 10 else 0)) (epc_of p.context) gate (number gate trap.code (settle p.context).regs))
    (entrance_told trap.code p.context.in_slot (epc_of p.context) (nat_eq trap.code 8) refl)
