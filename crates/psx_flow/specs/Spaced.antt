-- Loads with room behind them: a loaded register holds its value only after the next instruction (R3000A manual, load delay), so that one must leave it alone.
use Rattle.std.specs.Prelude.{ℕ, Bool, true, false, not, ◌&&◌, ◌||◌, nat_eq, List, [], ◌∷◌, Option, Some, None}
use Rattle.psx_ins.specs.declared.reg.Reg.{Reg}
use Rattle.psx_ins.specs.declared.ins.Ins.{Ins}
use Rattle.psx_ins.specs.declared.ins.Ins.TheVariants.{SLL, SRL, SRA, SLLV, SRLV, SRAV, JR, JALR, SYSCALL, BREAK, MFHI, MTHI, MFLO, MTLO, MULT, MULTU, DIV, DIVU, ADD, ADDU, SUB, SUBU, AND, OR, XOR, NOR, SLT, SLTU, BLTZ, BGEZ, BLTZAL, BGEZAL, J, JAL, BEQ, BNE, BLEZ, BGTZ, ADDI, ADDIU, SLTI, SLTIU, ANDI, ORI, XORI, LUI, LB, LH, LWL, LW, LBU, LHU, LWR, SB, SH, SWL, SW, SWR, MFC0, MTC0, RFE}
use Rattle.psx_flow.specs.declared.node.Node.{Node}
use Rattle.psx_flow.specs.declared.node.Node.TheVariants.{Op}

abbrev pub r31 : Reg
r31 = record { 0 = 31 }

-- the registers that an instruction reads, and those that it writes (R3000A manual, instruction set)
abbrev pub registers_of : Ins → List Reg × List Reg
registers_of (SLL t d n) = (t ∷ [], d ∷ [])
registers_of (SRL t d n) = (t ∷ [], d ∷ [])
registers_of (SRA t d n) = (t ∷ [], d ∷ [])
registers_of (SLLV s t d) = (s ∷ t ∷ [], d ∷ [])
registers_of (SRLV s t d) = (s ∷ t ∷ [], d ∷ [])
registers_of (SRAV s t d) = (s ∷ t ∷ [], d ∷ [])
registers_of (JR s) = (s ∷ [], [])
registers_of (JALR s d) = (s ∷ [], d ∷ [])
registers_of (SYSCALL code) = ([], [])
registers_of (BREAK code) = ([], [])
registers_of (MFHI d) = ([], d ∷ [])
registers_of (MTHI s) = (s ∷ [], [])
registers_of (MFLO d) = ([], d ∷ [])
registers_of (MTLO s) = (s ∷ [], [])
registers_of (MULT s t) = (s ∷ t ∷ [], [])
registers_of (MULTU s t) = (s ∷ t ∷ [], [])
registers_of (DIV s t) = (s ∷ t ∷ [], [])
registers_of (DIVU s t) = (s ∷ t ∷ [], [])
registers_of (ADD s t d) = (s ∷ t ∷ [], d ∷ [])
registers_of (ADDU s t d) = (s ∷ t ∷ [], d ∷ [])
registers_of (SUB s t d) = (s ∷ t ∷ [], d ∷ [])
registers_of (SUBU s t d) = (s ∷ t ∷ [], d ∷ [])
registers_of (AND s t d) = (s ∷ t ∷ [], d ∷ [])
registers_of (OR s t d) = (s ∷ t ∷ [], d ∷ [])
registers_of (XOR s t d) = (s ∷ t ∷ [], d ∷ [])
registers_of (NOR s t d) = (s ∷ t ∷ [], d ∷ [])
registers_of (SLT s t d) = (s ∷ t ∷ [], d ∷ [])
registers_of (SLTU s t d) = (s ∷ t ∷ [], d ∷ [])
registers_of (BLTZ s imm) = (s ∷ [], [])
registers_of (BGEZ s imm) = (s ∷ [], [])
registers_of (BLTZAL s imm) = (s ∷ [], r31 ∷ [])
registers_of (BGEZAL s imm) = (s ∷ [], r31 ∷ [])
registers_of (J target) = ([], [])
registers_of (JAL target) = ([], r31 ∷ [])
registers_of (BEQ s t imm) = (s ∷ t ∷ [], [])
registers_of (BNE s t imm) = (s ∷ t ∷ [], [])
registers_of (BLEZ s imm) = (s ∷ [], [])
registers_of (BGTZ s imm) = (s ∷ [], [])
registers_of (ADDI s t imm) = (s ∷ [], t ∷ [])
registers_of (ADDIU s t imm) = (s ∷ [], t ∷ [])
registers_of (SLTI s t imm) = (s ∷ [], t ∷ [])
registers_of (SLTIU s t imm) = (s ∷ [], t ∷ [])
registers_of (ANDI s t imm) = (s ∷ [], t ∷ [])
registers_of (ORI s t imm) = (s ∷ [], t ∷ [])
registers_of (XORI s t imm) = (s ∷ [], t ∷ [])
registers_of (LUI t imm) = ([], t ∷ [])
registers_of (LB s t imm) = (s ∷ [], t ∷ [])
registers_of (LH s t imm) = (s ∷ [], t ∷ [])
registers_of (LWL s t imm) = (s ∷ t ∷ [], t ∷ [])
registers_of (LW s t imm) = (s ∷ [], t ∷ [])
registers_of (LBU s t imm) = (s ∷ [], t ∷ [])
registers_of (LHU s t imm) = (s ∷ [], t ∷ [])
registers_of (LWR s t imm) = (s ∷ t ∷ [], t ∷ [])
registers_of (SB s t imm) = (s ∷ t ∷ [], [])
registers_of (SH s t imm) = (s ∷ t ∷ [], [])
registers_of (SWL s t imm) = (s ∷ t ∷ [], [])
registers_of (SW s t imm) = (s ∷ t ∷ [], [])
registers_of (SWR s t imm) = (s ∷ t ∷ [], [])
registers_of (MFC0 t d) = ([], t ∷ [])
registers_of (MTC0 t d) = (t ∷ [], [])
registers_of RFE = ([], [])

abbrev pub is_among : ℕ → List Reg → Bool
is_among n [] = false
is_among n (r ∷ rs) = nat_eq n r.0 || is_among n rs

-- whether an instruction reads or writes a register
abbrev pub touches : Ins → ℕ → Bool
touches i n = is_among n (registers_of i).0 || is_among n (registers_of i).1

-- the register of a load
abbrev pub load_of : Ins → Option ℕ
load_of (LB s t imm) = Some t.0
load_of (LH s t imm) = Some t.0
load_of (LWL s t imm) = Some t.0
load_of (LW s t imm) = Some t.0
load_of (LBU s t imm) = Some t.0
load_of (LHU s t imm) = Some t.0
load_of (LWR s t imm) = Some t.0
load_of (MFC0 t d) = Some t.0
load_of _ = None

-- what follows a load of a register begins with an Op that leaves it alone; r0 can't be loaded
abbrev pub has_room : Option ℕ → List Node → Bool
has_room None ns = true
has_room (Some n) (Op i ∷ ns) = nat_eq n 0 || not (touches i n)
has_room (Some n) _ = nat_eq n 0

-- each load of a list of nodes has room
abbrev pub is_spaced : List Node → Bool
is_spaced [] = true
is_spaced (Op i ∷ ns) = has_room (load_of i) ns && is_spaced ns
is_spaced (_ ∷ ns) = is_spaced ns
