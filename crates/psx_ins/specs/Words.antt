-- The instructions and their words (R3000A manual, instruction set and opcode table; PSX-SPX, CPU opcode encoding).
use Rattle.std.specs.Prelude.{ℕ, Bool}
use Rattle.psx_ins.specs.declared.ins.Ins.{Ins}
use Rattle.psx_ins.specs.declared.ins.Ins.TheVariants.{SLL, SRL, SRA, SLLV, SRLV, SRAV, JR, JALR, SYSCALL, BREAK, MFHI, MTHI, MFLO, MTLO, MULT, MULTU, DIV, DIVU, ADD, ADDU, SUB, SUBU, AND, OR, XOR, NOR, SLT, SLTU, BLTZ, BGEZ, BLTZAL, BGEZAL, J, JAL, BEQ, BNE, BLEZ, BGTZ, ADDI, ADDIU, SLTI, SLTIU, ANDI, ORI, XORI, LUI, LB, LH, LWL, LW, LBU, LHU, LWR, SB, SH, SWL, SW, SWR, MFC0, MTC0, RFE}
use Rattle.psx_ins.specs.declared.form.Form.{Form}
use Rattle.psx_ins.specs.declared.form.Form.TheVariants.{Register, Immediate, Jump, Code}
use Rattle.psx_ins.specs.Forms.{reg, unused, form_word, form_fits}

-- the fields of an instruction's word:
-- Register op s t d n funct, Immediate op s t imm, Jump op target, Code code funct
abbrev pub form : Ins → Form
form (SLL t d n) = Register 0x00 unused t d n 0x00
form (SRL t d n) = Register 0x00 unused t d n 0x02
form (SRA t d n) = Register 0x00 unused t d n 0x03
form (SLLV s t d) = Register 0x00 s t d 0 0x04
form (SRLV s t d) = Register 0x00 s t d 0 0x06
form (SRAV s t d) = Register 0x00 s t d 0 0x07
form (JR s) = Register 0x00 s unused unused 0 0x08
form (JALR s d) = Register 0x00 s unused d 0 0x09
form (SYSCALL code) = Code code 0x0C
form (BREAK code) = Code code 0x0D
form (MFHI d) = Register 0x00 unused unused d 0 0x10
form (MTHI s) = Register 0x00 s unused unused 0 0x11
form (MFLO d) = Register 0x00 unused unused d 0 0x12
form (MTLO s) = Register 0x00 s unused unused 0 0x13
form (MULT s t) = Register 0x00 s t unused 0 0x18
form (MULTU s t) = Register 0x00 s t unused 0 0x19
form (DIV s t) = Register 0x00 s t unused 0 0x1A
form (DIVU s t) = Register 0x00 s t unused 0 0x1B
form (ADD s t d) = Register 0x00 s t d 0 0x20
form (ADDU s t d) = Register 0x00 s t d 0 0x21
form (SUB s t d) = Register 0x00 s t d 0 0x22
form (SUBU s t d) = Register 0x00 s t d 0 0x23
form (AND s t d) = Register 0x00 s t d 0 0x24
form (OR s t d) = Register 0x00 s t d 0 0x25
form (XOR s t d) = Register 0x00 s t d 0 0x26
form (NOR s t d) = Register 0x00 s t d 0 0x27
form (SLT s t d) = Register 0x00 s t d 0 0x2A
form (SLTU s t d) = Register 0x00 s t d 0 0x2B
form (BLTZ s imm) = Immediate 0x01 s unused imm
form (BGEZ s imm) = Immediate 0x01 s (reg 0x01) imm
form (BLTZAL s imm) = Immediate 0x01 s (reg 0x10) imm
form (BGEZAL s imm) = Immediate 0x01 s (reg 0x11) imm
form (J target) = Jump 0x02 target
form (JAL target) = Jump 0x03 target
form (BEQ s t imm) = Immediate 0x04 s t imm
form (BNE s t imm) = Immediate 0x05 s t imm
form (BLEZ s imm) = Immediate 0x06 s unused imm
form (BGTZ s imm) = Immediate 0x07 s unused imm
form (ADDI s t imm) = Immediate 0x08 s t imm
form (ADDIU s t imm) = Immediate 0x09 s t imm
form (SLTI s t imm) = Immediate 0x0A s t imm
form (SLTIU s t imm) = Immediate 0x0B s t imm
form (ANDI s t imm) = Immediate 0x0C s t imm
form (ORI s t imm) = Immediate 0x0D s t imm
form (XORI s t imm) = Immediate 0x0E s t imm
form (LUI t imm) = Immediate 0x0F unused t imm
form (LB s t imm) = Immediate 0x20 s t imm
form (LH s t imm) = Immediate 0x21 s t imm
form (LWL s t imm) = Immediate 0x22 s t imm
form (LW s t imm) = Immediate 0x23 s t imm
form (LBU s t imm) = Immediate 0x24 s t imm
form (LHU s t imm) = Immediate 0x25 s t imm
form (LWR s t imm) = Immediate 0x26 s t imm
form (SB s t imm) = Immediate 0x28 s t imm
form (SH s t imm) = Immediate 0x29 s t imm
form (SWL s t imm) = Immediate 0x2A s t imm
form (SW s t imm) = Immediate 0x2B s t imm
form (SWR s t imm) = Immediate 0x2E s t imm
form (MFC0 t d) = Register 0x10 unused t d 0 0x00
form (MTC0 t d) = Register 0x10 (reg 0x04) t d 0 0x00
form RFE = Register 0x10 (reg 0x10) unused unused 0 0x10

-- the word of an instruction
abbrev pub word : Ins → ℕ
word ins = form_word (form ins)

-- whether the registers and the shift are below 32, imm below 2^16, target below 2^26, code below 2^20
abbrev pub fits_fields : Ins → Bool
fits_fields ins = form_fits (form ins)
