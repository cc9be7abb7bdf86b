-- The operands of an instruction, in the order in which assembly language has them (R3000A manual, instruction set).
-- They may hang on the address of the instruction's delay slot: only branches and jumps look at it.
use Rattle.std.specs.Prelude.{ℕ, Option, Some, None}
use Rattle.psx_ins.specs.declared.reg.Reg.{Reg}
use Rattle.psx_ins.specs.declared.ins.Ins.{Ins}
use Rattle.psx_ins.specs.declared.ins.Ins.TheVariants.{SLL, SRL, SRA, SLLV, SRLV, SRAV, JR, JALR, SYSCALL, BREAK, MFHI, MTHI, MFLO, MTLO, MULT, MULTU, DIV, DIVU, ADD, ADDU, SUB, SUBU, AND, OR, XOR, NOR, SLT, SLTU, BLTZ, BGEZ, BLTZAL, BGEZAL, J, JAL, BEQ, BNE, BLEZ, BGTZ, ADDI, ADDIU, SLTI, SLTIU, ANDI, ORI, XORI, LUI, LB, LH, LWL, LW, LBU, LHU, LWR, SB, SH, SWL, SW, SWR, MFC0, MTC0, RFE}
use Rattle.psx_dis.specs.declared.operands.Operand.TheVariants.{Register, Number, Signed, Place, Target}
use Rattle.psx_dis.specs.declared.operands.Operands.{Operands}
use Rattle.psx_dis.specs.declared.operands.Operands.TheVariants.{Nothing, One, Two, Three}
use Rattle.psx_dis.specs.Targets.{jump_target, branch_target}

-- one register
abbrev pub one : Reg → Option Operands
one s = Some (One (Register s))

-- two registers
abbrev pub two : Reg → Reg → Option Operands
two a b = Some (Two (Register a) (Register b))

-- three registers
abbrev pub three : Reg → Reg → Reg → Option Operands
three a b c = Some (Three (Register a) (Register b) (Register c))

-- a number
abbrev pub alone : ℕ → Option Operands
alone n = Some (One (Number n))

-- a register and a number
abbrev pub one_and : Reg → ℕ → Option Operands
one_and a n = Some (Two (Register a) (Number n))

-- two registers and a number
abbrev pub two_and : Reg → Reg → ℕ → Option Operands
two_and a b n = Some (Three (Register a) (Register b) (Number n))

-- two registers and a signed number
abbrev pub two_signed : Reg → Reg → ℕ → Option Operands
two_signed a b imm = Some (Three (Register a) (Register b) (Signed imm))

-- a register and a place in memory, so many bytes from where another register points
abbrev pub place : Reg → ℕ → Reg → Option Operands
place t imm s = Some (Two (Register t) (Place imm s))

-- a jump's target
abbrev pub jump : ℕ → Option Operands
jump target = Some (One (Target target))

-- a register and a branch's target, where there is one
abbrev pub one_to : Reg → Option ℕ → Option Operands
one_to s (Some target) = Some (Two (Register s) (Target target))
one_to s None = None

-- two registers and a branch's target, where there is one
abbrev pub two_to : Reg → Reg → Option ℕ → Option Operands
two_to s t (Some target) = Some (Three (Register s) (Register t) (Target target))
two_to s t None = None

-- by the slot's address and the instruction; none for a branch whose target passes an end of the 32 bits
abbrev pub operands : ℕ → Ins → Option Operands
operands slot (SLL t d n) = two_and d t n
operands slot (SRL t d n) = two_and d t n
operands slot (SRA t d n) = two_and d t n
operands slot (SLLV s t d) = three d t s
operands slot (SRLV s t d) = three d t s
operands slot (SRAV s t d) = three d t s
operands slot (JR s) = one s
operands slot (JALR s d) = two d s
operands slot (SYSCALL code) = alone code
operands slot (BREAK code) = alone code
operands slot (MFHI d) = one d
operands slot (MTHI s) = one s
operands slot (MFLO d) = one d
operands slot (MTLO s) = one s
operands slot (MULT s t) = two s t
operands slot (MULTU s t) = two s t
operands slot (DIV s t) = two s t
operands slot (DIVU s t) = two s t
operands slot (ADD s t d) = three d s t
operands slot (ADDU s t d) = three d s t
operands slot (SUB s t d) = three d s t
operands slot (SUBU s t d) = three d s t
operands slot (AND s t d) = three d s t
operands slot (OR s t d) = three d s t
operands slot (XOR s t d) = three d s t
operands slot (NOR s t d) = three d s t
operands slot (SLT s t d) = three d s t
operands slot (SLTU s t d) = three d s t
operands slot (BLTZ s imm) = one_to s (branch_target slot imm)
operands slot (BGEZ s imm) = one_to s (branch_target slot imm)
operands slot (BLTZAL s imm) = one_to s (branch_target slot imm)
operands slot (BGEZAL s imm) = one_to s (branch_target slot imm)
operands slot (J target) = jump (jump_target slot target)
operands slot (JAL target) = jump (jump_target slot target)
operands slot (BEQ s t imm) = two_to s t (branch_target slot imm)
operands slot (BNE s t imm) = two_to s t (branch_target slot imm)
operands slot (BLEZ s imm) = one_to s (branch_target slot imm)
operands slot (BGTZ s imm) = one_to s (branch_target slot imm)
operands slot (ADDI s t imm) = two_signed t s imm
operands slot (ADDIU s t imm) = two_signed t s imm
operands slot (SLTI s t imm) = two_signed t s imm
operands slot (SLTIU s t imm) = two_signed t s imm
operands slot (ANDI s t imm) = two_and t s imm
operands slot (ORI s t imm) = two_and t s imm
operands slot (XORI s t imm) = two_and t s imm
operands slot (LUI t imm) = one_and t imm
operands slot (LB s t imm) = place t imm s
operands slot (LH s t imm) = place t imm s
operands slot (LWL s t imm) = place t imm s
operands slot (LW s t imm) = place t imm s
operands slot (LBU s t imm) = place t imm s
operands slot (LHU s t imm) = place t imm s
operands slot (LWR s t imm) = place t imm s
operands slot (SB s t imm) = place t imm s
operands slot (SH s t imm) = place t imm s
operands slot (SWL s t imm) = place t imm s
operands slot (SW s t imm) = place t imm s
operands slot (SWR s t imm) = place t imm s
operands slot (MFC0 t d) = one_and t d.0
operands slot (MTC0 t d) = one_and t d.0
operands slot RFE = Some Nothing
