-- How a word of op 00h is taken apart: the opcode table read from the word's side (R3000A manual, opcode bit encoding).
-- `Decoding` has the other ops, and says by what it is fixed.
use Rattle.std.specs.Prelude.{ℕ, ◌+◌, ◌*◌, nat_eq, Option, Some, None, if◌then◌else◌}
use Rattle.psx_ins.specs.declared.reg.Reg.{Reg}
use Rattle.psx_ins.specs.declared.ins.Ins.{Ins}
use Rattle.psx_ins.specs.declared.ins.Ins.TheVariants.{SLL, SRL, SRA, SLLV, SRLV, SRAV, JR, JALR, SYSCALL, BREAK, MFHI, MTHI, MFLO, MTLO, MULT, MULTU, DIV, DIVU, ADD, ADDU, SUB, SUBU, AND, OR, XOR, NOR, SLT, SLTU}

-- the instruction, where the fields that it has no use for add up to 0
abbrev pub if_zero : ℕ → Ins → Option Ins
if_zero rest ins = if nat_eq rest 0 then Some ins else None

-- the 20 bits above funct
abbrev pub code_by : Reg → Reg → Reg → ℕ → ℕ
code_by s t d n = ((s.0 * 32 + t.0) * 32 + d.0) * 32 + n

-- op 00h by funct
abbrev pub special_by : Reg → Reg → Reg → ℕ → ℕ → Option Ins
special_by s t d n funct =
    if nat_eq funct 0x00 then if_zero s.0 (SLL t d n) else
    if nat_eq funct 0x02 then if_zero s.0 (SRL t d n) else
    if nat_eq funct 0x03 then if_zero s.0 (SRA t d n) else
    if nat_eq funct 0x04 then if_zero n (SLLV s t d) else
    if nat_eq funct 0x06 then if_zero n (SRLV s t d) else
    if nat_eq funct 0x07 then if_zero n (SRAV s t d) else
    if nat_eq funct 0x08 then if_zero (t.0 + d.0 + n) (JR s) else
    if nat_eq funct 0x09 then if_zero (t.0 + n) (JALR s d) else
    if nat_eq funct 0x0C then Some (SYSCALL (code_by s t d n)) else
    if nat_eq funct 0x0D then Some (BREAK (code_by s t d n)) else
    if nat_eq funct 0x10 then if_zero (s.0 + t.0 + n) (MFHI d) else
    if nat_eq funct 0x11 then if_zero (t.0 + d.0 + n) (MTHI s) else
    if nat_eq funct 0x12 then if_zero (s.0 + t.0 + n) (MFLO d) else
    if nat_eq funct 0x13 then if_zero (t.0 + d.0 + n) (MTLO s) else
    if nat_eq funct 0x18 then if_zero (d.0 + n) (MULT s t) else
    if nat_eq funct 0x19 then if_zero (d.0 + n) (MULTU s t) else
    if nat_eq funct 0x1A then if_zero (d.0 + n) (DIV s t) else
    if nat_eq funct 0x1B then if_zero (d.0 + n) (DIVU s t) else
    if nat_eq funct 0x20 then if_zero n (ADD s t d) else
    if nat_eq funct 0x21 then if_zero n (ADDU s t d) else
    if nat_eq funct 0x22 then if_zero n (SUB s t d) else
    if nat_eq funct 0x23 then if_zero n (SUBU s t d) else
    if nat_eq funct 0x24 then if_zero n (AND s t d) else
    if nat_eq funct 0x25 then if_zero n (OR s t d) else
    if nat_eq funct 0x26 then if_zero n (XOR s t d) else
    if nat_eq funct 0x27 then if_zero n (NOR s t d) else
    if nat_eq funct 0x2A then if_zero n (SLT s t d) else
    if nat_eq funct 0x2B then if_zero n (SLTU s t d) else
    None
