-- What the processor keeps of an entry.
use Rattle.std.proofs.Common.{◌≡◌, ℕ, ◌/◌, ◌%◌, ◌^◌, ◌<◌, Bool, true, false, refl, ap, arith}
use Rattle.std.specs.Prelude.{nat_le}
use Rattle.psx_base.specs.Context.{epc_of}
use Rattle.psx_base.specs.Entrances.{entrance}
use Rattle.psx_cpu.specs.Exceptions.{cause_of}
use Rattle.abs_kernel.specs.CauseLaws.{EntriesKept, EntriesTold}

pub entries_kept : EntriesKept
entries_kept p trap = record { cause = refl; epc = refl; named = refl }

code_told : (slot : Bool) (code : ℕ) → code < 32 → cause_of code slot / 4 % 32 ≡ code
code_told true code h = omega arith
code_told false code h = omega arith

slot_told : (slot : Bool) (code : ℕ) → code < 32 → nat_le (2 ^ 31) (cause_of code slot) ≡ slot
slot_told true code h = grind arith
slot_told false code h = grind arith

pub entries_told : EntriesTold
entries_told c code h = record { code = code_told c.in_slot code h; gate = ap (λ (slot : Bool). entrance code slot (epc_of c)) (slot_told c.in_slot code h) }
