-- How a word is taken apart: the opcode table read from the word's side (R3000A manual, opcode bit encoding).
-- The processor's guard and the printed form are said by it. It gives an instruction exactly where the table of `Words` gives that instruction the word: `decode` says so (`found`, `none`, `exact`).
use Rattle.std.specs.Prelude.{ℕ, ◌+◌, ◌/◌, ◌%◌, ◌^◌, nat_eq, Option, Some, None, if◌then◌else◌}
use Rattle.psx_ins.specs.declared.reg.Reg.{Reg}
use Rattle.psx_ins.specs.declared.ins.Ins.{Ins}
use Rattle.psx_ins.specs.declared.ins.Ins.TheVariants.{BLTZ, BGEZ, BLTZAL, BGEZAL, J, JAL, BEQ, BNE, BLEZ, BGTZ, ADDI, ADDIU, SLTI, SLTIU, ANDI, ORI, XORI, LUI, LB, LH, LWL, LW, LBU, LHU, LWR, SB, SH, SWL, SW, SWR, MFC0, MTC0, RFE}
use Rattle.psx_ins.specs.Forms.{reg}
use Rattle.psx_ins.specs.Special.{if_zero, special_by}

-- op 01h by t
abbrev pub sign_by : Reg → ℕ → ℕ → Option Ins
sign_by s t imm =
    if nat_eq t 0x00 then Some (BLTZ s imm) else
    if nat_eq t 0x01 then Some (BGEZ s imm) else
    if nat_eq t 0x10 then Some (BLTZAL s imm) else
    if nat_eq t 0x11 then Some (BGEZAL s imm) else
    None

-- op 10h by s
abbrev pub coprocessor_by : ℕ → Reg → Reg → ℕ → ℕ → Option Ins
coprocessor_by s t d n funct =
    if nat_eq s 0x00 then if_zero (n + funct) (MFC0 t d) else
    if nat_eq s 0x04 then if_zero (n + funct) (MTC0 t d) else
    if nat_eq s 0x10 then (if nat_eq funct 0x10 then if_zero (t.0 + d.0 + n) RFE else None) else
    None

-- the ops with an immediate_by
abbrev pub immediate_by : ℕ → Reg → Reg → ℕ → Option Ins
immediate_by op s t imm =
    if nat_eq op 0x04 then Some (BEQ s t imm) else
    if nat_eq op 0x05 then Some (BNE s t imm) else
    if nat_eq op 0x06 then if_zero t.0 (BLEZ s imm) else
    if nat_eq op 0x07 then if_zero t.0 (BGTZ s imm) else
    if nat_eq op 0x08 then Some (ADDI s t imm) else
    if nat_eq op 0x09 then Some (ADDIU s t imm) else
    if nat_eq op 0x0A then Some (SLTI s t imm) else
    if nat_eq op 0x0B then Some (SLTIU s t imm) else
    if nat_eq op 0x0C then Some (ANDI s t imm) else
    if nat_eq op 0x0D then Some (ORI s t imm) else
    if nat_eq op 0x0E then Some (XORI s t imm) else
    if nat_eq op 0x0F then if_zero s.0 (LUI t imm) else
    if nat_eq op 0x20 then Some (LB s t imm) else
    if nat_eq op 0x21 then Some (LH s t imm) else
    if nat_eq op 0x22 then Some (LWL s t imm) else
    if nat_eq op 0x23 then Some (LW s t imm) else
    if nat_eq op 0x24 then Some (LBU s t imm) else
    if nat_eq op 0x25 then Some (LHU s t imm) else
    if nat_eq op 0x26 then Some (LWR s t imm) else
    if nat_eq op 0x28 then Some (SB s t imm) else
    if nat_eq op 0x29 then Some (SH s t imm) else
    if nat_eq op 0x2A then Some (SWL s t imm) else
    if nat_eq op 0x2B then Some (SW s t imm) else
    if nat_eq op 0x2E then Some (SWR s t imm) else
    None

-- by the fields op, s, t, d, n and funct, the low 16 bits and the low 26 bits
abbrev pub instruction_by : ℕ → Reg → Reg → Reg → ℕ → ℕ → ℕ → ℕ → Option Ins
instruction_by op s t d n funct imm target =
    if nat_eq op 0x00 then special_by s t d n funct else
    if nat_eq op 0x01 then sign_by s t.0 imm else
    if nat_eq op 0x02 then Some (J target) else
    if nat_eq op 0x03 then Some (JAL target) else
    if nat_eq op 0x10 then coprocessor_by s.0 t d n funct else
    immediate_by op s t imm

-- by the word
unfoldable pub instruction_of : ℕ → Option Ins
instruction_of bits =
    instruction_by (bits / 2 ^ 26)
    (reg (bits / 2 ^ 21 % 32)) (reg (bits / 2 ^ 16 % 32)) (reg (bits / 2 ^ 11 % 32)) (bits / 2 ^ 6 % 32) (bits % 64)
    (bits % 2 ^ 16) (bits % 2 ^ 26)
