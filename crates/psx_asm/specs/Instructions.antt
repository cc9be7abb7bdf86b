-- The instructions by their mnemonics, a table for each list of operands (R3000A manual, instruction set). The operands stand in the
-- order of the text.
use Rattle.std.specs.Prelude.{ℕ, List, codes, bytes_eq, Option, Some, None, if◌then◌else◌}
use Rattle.psx_ins.specs.declared.reg.Reg.{Reg}
use Rattle.psx_ins.specs.declared.ins.Ins.{Ins}
use Rattle.psx_ins.specs.declared.ins.Ins.TheVariants.{SLL, SRL, SRA, SLLV, SRLV, SRAV, JR, JALR, SYSCALL, BREAK, MFHI, MTHI, MFLO, MTLO, MULT, MULTU, DIV, DIVU, ADD, ADDU, SUB, SUBU, AND, OR, XOR, NOR, SLT, SLTU, BLTZ, BGEZ, BLTZAL, BGEZAL, J, JAL, BEQ, BNE, BLEZ, BGTZ, ADDI, ADDIU, SLTI, SLTIU, ANDI, ORI, XORI, LUI, LB, LH, LWL, LW, LBU, LHU, LWR, SB, SH, SWL, SW, SWR, MFC0, MTC0, RFE}
use Rattle.psx_ins.specs.Forms.{reg}

-- register 0
abbrev pub r0 : Reg
r0 = reg 0

-- nothing
abbrev pub bare : List ℕ → Option Ins
bare w =
    if bytes_eq w (codes "nop") then Some (SLL r0 r0 0) else
    if bytes_eq w (codes "rfe") then Some RFE else
    None

-- a register
abbrev pub one : List ℕ → Reg → Option Ins
one w a =
    if bytes_eq w (codes "jr") then Some (JR a) else
    if bytes_eq w (codes "mfhi") then Some (MFHI a) else
    if bytes_eq w (codes "mthi") then Some (MTHI a) else
    if bytes_eq w (codes "mflo") then Some (MFLO a) else
    if bytes_eq w (codes "mtlo") then Some (MTLO a) else
    None

-- two registers
abbrev pub two : List ℕ → Reg → Reg → Option Ins
two w a b =
    if bytes_eq w (codes "move") then Some (ADDU b r0 a) else
    if bytes_eq w (codes "jalr") then Some (JALR b a) else
    if bytes_eq w (codes "mult") then Some (MULT a b) else
    if bytes_eq w (codes "multu") then Some (MULTU a b) else
    if bytes_eq w (codes "div") then Some (DIV a b) else
    if bytes_eq w (codes "divu") then Some (DIVU a b) else
    None

-- three registers
abbrev pub three : List ℕ → Reg → Reg → Reg → Option Ins
three w a b c =
    if bytes_eq w (codes "add") then Some (ADD b c a) else
    if bytes_eq w (codes "addu") then Some (ADDU b c a) else
    if bytes_eq w (codes "sub") then Some (SUB b c a) else
    if bytes_eq w (codes "subu") then Some (SUBU b c a) else
    if bytes_eq w (codes "and") then Some (AND b c a) else
    if bytes_eq w (codes "or") then Some (OR b c a) else
    if bytes_eq w (codes "xor") then Some (XOR b c a) else
    if bytes_eq w (codes "nor") then Some (NOR b c a) else
    if bytes_eq w (codes "slt") then Some (SLT b c a) else
    if bytes_eq w (codes "sltu") then Some (SLTU b c a) else
    if bytes_eq w (codes "sllv") then Some (SLLV c b a) else
    if bytes_eq w (codes "srlv") then Some (SRLV c b a) else
    if bytes_eq w (codes "srav") then Some (SRAV c b a) else
    None

-- two registers and a shift
abbrev pub shift : List ℕ → Reg → Reg → ℕ → Option Ins
shift w a b n =
    if bytes_eq w (codes "sll") then Some (SLL b a n) else
    if bytes_eq w (codes "srl") then Some (SRL b a n) else
    if bytes_eq w (codes "sra") then Some (SRA b a n) else
    None

-- two registers and 16 bits with a sign
abbrev pub signed : List ℕ → Reg → Reg → ℕ → Option Ins
signed w a b imm =
    if bytes_eq w (codes "addiu") then Some (ADDIU b a imm) else
    if bytes_eq w (codes "addi") then Some (ADDI b a imm) else
    if bytes_eq w (codes "slti") then Some (SLTI b a imm) else
    if bytes_eq w (codes "sltiu") then Some (SLTIU b a imm) else
    None

-- two registers and 16 bits without a sign
abbrev pub unsigned : List ℕ → Reg → Reg → ℕ → Option Ins
unsigned w a b imm =
    if bytes_eq w (codes "andi") then Some (ANDI b a imm) else
    if bytes_eq w (codes "ori") then Some (ORI b a imm) else
    if bytes_eq w (codes "xori") then Some (XORI b a imm) else
    None

-- a register and 16 bits without a sign
abbrev pub upper : List ℕ → Reg → ℕ → Option Ins
upper w a imm = if bytes_eq w (codes "lui") then Some (LUI a imm) else None

-- a register and a place in memory: 16 bits with a sign, and the register that they are added to
abbrev pub place : List ℕ → Reg → ℕ → Reg → Option Ins
place w a imm s =
    if bytes_eq w (codes "lw") then Some (LW s a imm) else
    if bytes_eq w (codes "sw") then Some (SW s a imm) else
    if bytes_eq w (codes "lb") then Some (LB s a imm) else
    if bytes_eq w (codes "lbu") then Some (LBU s a imm) else
    if bytes_eq w (codes "lh") then Some (LH s a imm) else
    if bytes_eq w (codes "lhu") then Some (LHU s a imm) else
    if bytes_eq w (codes "lwl") then Some (LWL s a imm) else
    if bytes_eq w (codes "lwr") then Some (LWR s a imm) else
    if bytes_eq w (codes "sb") then Some (SB s a imm) else
    if bytes_eq w (codes "sh") then Some (SH s a imm) else
    if bytes_eq w (codes "swl") then Some (SWL s a imm) else
    if bytes_eq w (codes "swr") then Some (SWR s a imm) else
    None

-- a register and the number of a register of coprocessor 0
abbrev pub coprocessor : List ℕ → Reg → Reg → Option Ins
coprocessor w a d =
    if bytes_eq w (codes "mfc0") then Some (MFC0 a d) else
    if bytes_eq w (codes "mtc0") then Some (MTC0 a d) else
    None

-- 20 bits
abbrev pub code : List ℕ → ℕ → Option Ins
code w n =
    if bytes_eq w (codes "syscall") then Some (SYSCALL n) else
    if bytes_eq w (codes "break") then Some (BREAK n) else
    None

-- a branch of 16 bits without a register
abbrev pub branch_always : List ℕ → Option Ins
branch_always w = if bytes_eq w (codes "b") then Some (BEQ r0 r0 0) else None

-- a register and a branch of 16 bits
abbrev pub branch_one : List ℕ → Reg → Option Ins
branch_one w a =
    if bytes_eq w (codes "blez") then Some (BLEZ a 0) else
    if bytes_eq w (codes "bgtz") then Some (BGTZ a 0) else
    if bytes_eq w (codes "bltz") then Some (BLTZ a 0) else
    if bytes_eq w (codes "bgez") then Some (BGEZ a 0) else
    if bytes_eq w (codes "bltzal") then Some (BLTZAL a 0) else
    if bytes_eq w (codes "bgezal") then Some (BGEZAL a 0) else
    None

-- two registers and a branch of 16 bits
abbrev pub branch_two : List ℕ → Reg → Reg → Option Ins
branch_two w a b =
    if bytes_eq w (codes "beq") then Some (BEQ a b 0) else
    if bytes_eq w (codes "bne") then Some (BNE a b 0) else
    None

-- a jump of 26 bits
abbrev pub jump : List ℕ → Option Ins
jump w =
    if bytes_eq w (codes "j") then Some (J 0) else
    if bytes_eq w (codes "jal") then Some (JAL 0) else
    None

-- a branch with other bits: how far it goes
abbrev pub branch_to : Ins → ℕ → Ins
branch_to (BEQ s t imm) n = BEQ s t n
branch_to (BNE s t imm) n = BNE s t n
branch_to (BLEZ s imm) n = BLEZ s n
branch_to (BGTZ s imm) n = BGTZ s n
branch_to (BLTZ s imm) n = BLTZ s n
branch_to (BGEZ s imm) n = BGEZ s n
branch_to (BLTZAL s imm) n = BLTZAL s n
branch_to (BGEZAL s imm) n = BGEZAL s n
branch_to ins n = ins

-- a jump with other bits: where it goes
abbrev pub jump_to : Ins → ℕ → Ins
jump_to (J target) n = J n
jump_to (JAL target) n = JAL n
jump_to ins n = ins
