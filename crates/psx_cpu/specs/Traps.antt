-- The exception in place of an instruction's effect (R3000A manual, exception processing).
-- Codes: 0 interrupt, 4 and 5 bad address of a load or fetch and of a store, 8 SYSCALL, 9 BREAK, 10 reserved instruction, 11 coprocessor unusable, 12 overflow.
use Rattle.std.specs.Prelude.{ℕ, ◌/◌, ◌%◌, ◌^◌, Bool, true, false, not, nat_eq, ◌||◌, Option, Some, None, ◌+ℤ◌, ◌-ℤ◌, if◌then◌else◌}
use Rattle.psx_ins.specs.declared.ins.Ins.{Ins}
use Rattle.psx_ins.specs.declared.ins.Ins.TheVariants.{SYSCALL, BREAK, ADD, SUB, ADDI, LB, LH, LWL, LW, LBU, LHU, LWR, SB, SH, SWL, SW, SWR}
use Rattle.psx_base.specs.Registers.{register}
use Rattle.psx_base.specs.Context.{Context}
use Rattle.psx_cpu.specs.Words.{signed, has_word, sign_extended}
use Rattle.psx_cpu.specs.Processor.{Trap}
use Rattle.psx_cpu.specs.DataAccess.{data_address}

-- a load or store: its address, whether it stores, and the number that the address must be a multiple of, if any
pub record DataUse : Type 0 where
  pub at : ℕ
  pub stores : Bool
  pub multiple : Option ℕ

abbrev pub load_at : ℕ → Option ℕ → Option DataUse
load_at at multiple = Some (record { at = at; stores = false; multiple = multiple })

abbrev pub store_at : ℕ → Option ℕ → Option DataUse
store_at at multiple = Some (record { at = at; stores = true; multiple = multiple })

-- what an instruction loads or stores
abbrev pub data_use : Ins → Context → Option DataUse
data_use (LB s t imm) c = load_at (data_address c s imm) None
data_use (LH s t imm) c = load_at (data_address c s imm) (Some 2)
data_use (LWL s t imm) c = load_at (data_address c s imm) None
data_use (LW s t imm) c = load_at (data_address c s imm) (Some 4)
data_use (LBU s t imm) c = load_at (data_address c s imm) None
data_use (LHU s t imm) c = load_at (data_address c s imm) (Some 2)
data_use (LWR s t imm) c = load_at (data_address c s imm) None
data_use (SB s t imm) c = store_at (data_address c s imm) None
data_use (SH s t imm) c = store_at (data_address c s imm) (Some 2)
data_use (SWL s t imm) c = store_at (data_address c s imm) None
data_use (SW s t imm) c = store_at (data_address c s imm) (Some 4)
data_use (SWR s t imm) c = store_at (data_address c s imm) None
data_use _ c = None

abbrev pub is_aligned : ℕ → Option ℕ → Bool
is_aligned at None = true
is_aligned at (Some n) = nat_eq (at % n) 0

-- the exception of an address that isn't aligned
abbrev pub misaligned : DataUse → Trap
misaligned u = record { code = if u.stores then 5 else 4; bad = Some u.at }

abbrev pub use_trap : Option DataUse → Option Trap
use_trap None = None
use_trap (Some u) = if is_aligned u.at u.multiple then None else Some (misaligned u)

abbrev pub raises : Bool → ℕ → Option Trap
raises true code = Some (record { code = code; bad = None })
raises false code = None

-- the trap of an instruction by its operands
abbrev pub own_trap : Ins → Context → Option Trap
own_trap (SYSCALL code) c = raises true 8
own_trap (BREAK code) c = raises true 9
own_trap (ADD s t d) c = raises (not (has_word (signed (register c.regs s.0) +ℤ signed (register c.regs t.0)))) 12
own_trap (SUB s t d) c = raises (not (has_word (signed (register c.regs s.0) -ℤ signed (register c.regs t.0)))) 12
own_trap (ADDI s t imm) c = raises (not (has_word (signed (register c.regs s.0) +ℤ signed (sign_extended imm)))) 12
own_trap i c = None

abbrev pub or_else : Option Trap → Option Trap → Option Trap
or_else None trap = trap
or_else (Some first) trap = Some first

-- the trap of an instruction: a data address that isn't aligned, or by its operands
abbrev pub trap_of : Ins → Context → Option Trap
trap_of i c = or_else (use_trap (data_use i c)) (own_trap i c)

-- a word that is no instruction: the coprocessors 1 to 3 are unusable
abbrev pub reserved_code : ℕ → ℕ
reserved_code w =
    let op = w / 2 ^ 26 in
    if nat_eq (op % 4) 0 then 10 else (if nat_eq (op / 4) 4 || (nat_eq (op / 4) 12 || nat_eq (op / 4) 14) then 11 else 10)
