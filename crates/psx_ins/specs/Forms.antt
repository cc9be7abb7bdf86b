-- The layouts of an instruction word (R3000A manual, CPU instruction formats; PSX-SPX, CPU opcode encoding).
use Rattle.std.specs.Prelude.{ℕ, ◌+◌, ◌*◌, ◌^◌, ◌&&◌, nat_lt, Bool}
use Rattle.psx_ins.specs.declared.reg.Reg.{Reg}
use Rattle.psx_ins.specs.declared.form.Form.{Form}
use Rattle.psx_ins.specs.declared.form.Form.TheVariants.{Register, Immediate, Jump, Code}

-- the register of a number
abbrev pub reg : ℕ → Reg
reg n = record { 0 = n }

-- a register field that the instruction has no use for
abbrev pub unused : Reg
unused = reg 0

-- the word of the fields: op from bit 26, s from 21, t from 16, d from 11, n from 6, funct from 0;
-- imm from 0, target from 0, code from 6
abbrev pub form_word : Form → ℕ
form_word (Register op s t d n funct) =
    op * 2 ^ 26 + s.0 * 2 ^ 21 + t.0 * 2 ^ 16 + d.0 * 2 ^ 11 + n * 2 ^ 6 + funct
form_word (Immediate op s t imm) = op * 2 ^ 26 + s.0 * 2 ^ 21 + t.0 * 2 ^ 16 + imm
form_word (Jump op target) = op * 2 ^ 26 + target
form_word (Code code funct) = code * 2 ^ 6 + funct

-- whether each number is below the limit of its field
abbrev pub form_fits : Form → Bool
form_fits (Register op s t d n funct) =
    nat_lt op 64 && nat_lt funct 64 && nat_lt s.0 32 && nat_lt t.0 32 && nat_lt d.0 32 && nat_lt n 32
form_fits (Immediate op s t imm) = nat_lt op 64 && nat_lt s.0 32 && nat_lt t.0 32 && nat_lt imm (2 ^ 16)
form_fits (Jump op target) = nat_lt op 64 && nat_lt target (2 ^ 26)
form_fits (Code code funct) = nat_lt funct 64 && nat_lt code (2 ^ 20)
