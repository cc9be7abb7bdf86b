-- Each printed instruction is read as the line that places its word.
use Rattle.std.proofs.Common.{◌≡◌, ℕ, ◌+◌, ◌%◌, ◌^◌, ◌≤◌, pos, codes, Option, Some, None, refl, ap, arith}
use Rattle.psx_ins.specs.declared.reg.Reg.{Reg}
use Rattle.psx_ins.specs.declared.ins.Ins.{Ins}
use Rattle.psx_ins.specs.declared.ins.Ins.TheVariants.{SLL, SRL, SRA, SLLV, SRLV, SRAV, JR, JALR, SYSCALL, BREAK, MFHI, MTHI, MFLO, MTLO, MULT, MULTU, DIV, DIVU, ADD, ADDU, SUB, SUBU, AND, OR, XOR, NOR, SLT, SLTU, BLTZ, BGEZ, BLTZAL, BGEZAL, J, JAL, BEQ, BNE, BLEZ, BGTZ, ADDI, ADDIU, SLTI, SLTIU, ANDI, ORI, XORI, LUI, LB, LH, LWL, LW, LBU, LHU, LWR, SB, SH, SWL, SW, SWR, MFC0, MTC0, RFE}
use Rattle.psx_ins.specs.Words.{form, word}
use Rattle.psx_asm.specs.Line.{with_operands}
use Rattle.psx_dis.specs.declared.operands.Operand.TheVariants.{Register, Target}
use Rattle.psx_dis.specs.declared.operands.Operands.{Operands}
use Rattle.psx_dis.specs.declared.operands.Operands.TheVariants.{Two, Three}
use Rattle.psx_dis.specs.Targets.{branch_target, jump_target}
use Rattle.psx_dis.specs.Operands.{one_to, two_to, operands}
use Rattle.psx_dis.proofs.Spelling.{read_as}
use Rattle.psx_dis.proofs.SpelledLines.{spelled_instruction}
use Rattle.psx_dis.proofs.Found.{IsBounded}
use Rattle.psx_dis.proofs.Shapes.{bare_reads, one_reads, two_reads, three_reads, shift_reads, signed_reads_as, unsigned_reads, upper_reads, place_reads, coprocessor_reads, code_reads, branch_one_reads, branch_two_reads, jump_reads}
use Rattle.psx_dis.proofs.Aims.{branch_back, jump_back}
use Rattle.psx_dis.proofs.Reading.{Reads, alone, branches, jumps}

-- an instruction with its operands, where it has some
abbrev pub IfReads : ℕ → Ins → Option Operands → Type 0
IfReads at ins (Some ops) = Reads at (word ins) (read_as (spelled_instruction ins ops))
IfReads at ins None = Unit {0}

one_to_reads : (at : ℕ) (ins : Ins) (s : Reg) (imm : ℕ)
    → ((target : ℕ) → branch_target (at + 4) imm ≡ Some target → Reads at (word ins) (read_as (spelled_instruction ins (Two (Register s) (Target target)))))
    → IfReads at ins (one_to s (branch_target (at + 4) imm))
one_to_reads at ins s imm h = go (branch_target (at + 4) imm) refl
  where
    go : (o : Option ℕ) → branch_target (at + 4) imm ≡ o → IfReads at ins (one_to s o)
    go (Some target) e = h target e
    go None e = tt

two_to_reads : (at : ℕ) (ins : Ins) (s t : Reg) (imm : ℕ)
    → ((target : ℕ) → branch_target (at + 4) imm ≡ Some target → Reads at (word ins) (read_as (spelled_instruction ins (Three (Register s) (Register t) (Target target)))))
    → IfReads at ins (two_to s t (branch_target (at + 4) imm))
two_to_reads at ins s t imm h = go (branch_target (at + 4) imm) refl
  where
    go : (o : Option ℕ) → branch_target (at + 4) imm ≡ o → IfReads at ins (two_to s t o)
    go (Some target) e = h target e
    go None e = tt

pub reads : (at : ℕ) (ins : Ins) → at % 4 ≡ 0 → at + 4 ≤ 2 ^ 32 → IsBounded (form ins) → IfReads at ins (operands (at + 4) ins)
reads at (SLL t d n) multiple end h = alone at (SLL t d n) _ multiple refl (λ known. ap with_operands (shift_reads known (codes "sll") d t n (omega arith) (omega arith) (omega arith)))
reads at (SRL t d n) multiple end h = alone at (SRL t d n) _ multiple refl (λ known. ap with_operands (shift_reads known (codes "srl") d t n (omega arith) (omega arith) (omega arith)))
reads at (SRA t d n) multiple end h = alone at (SRA t d n) _ multiple refl (λ known. ap with_operands (shift_reads known (codes "sra") d t n (omega arith) (omega arith) (omega arith)))
reads at (SLLV s t d) multiple end h = alone at (SLLV s t d) _ multiple refl (λ known. ap with_operands (three_reads known (codes "sllv") d t s (omega arith) (omega arith) (omega arith)))
reads at (SRLV s t d) multiple end h = alone at (SRLV s t d) _ multiple refl (λ known. ap with_operands (three_reads known (codes "srlv") d t s (omega arith) (omega arith) (omega arith)))
reads at (SRAV s t d) multiple end h = alone at (SRAV s t d) _ multiple refl (λ known. ap with_operands (three_reads known (codes "srav") d t s (omega arith) (omega arith) (omega arith)))
reads at (JR s) multiple end h = alone at (JR s) _ multiple refl (λ known. ap with_operands (one_reads known (codes "jr") s (omega arith)))
reads at (JALR s d) multiple end h = alone at (JALR s d) _ multiple refl (λ known. ap with_operands (two_reads known (codes "jalr") d s (omega arith) (omega arith)))
reads at (SYSCALL code) multiple end h = alone at (SYSCALL code) _ multiple refl (λ known. ap with_operands (code_reads known (codes "syscall") code (omega arith)))
reads at (BREAK code) multiple end h = alone at (BREAK code) _ multiple refl (λ known. ap with_operands (code_reads known (codes "break") code (omega arith)))
reads at (MFHI d) multiple end h = alone at (MFHI d) _ multiple refl (λ known. ap with_operands (one_reads known (codes "mfhi") d (omega arith)))
reads at (MTHI s) multiple end h = alone at (MTHI s) _ multiple refl (λ known. ap with_operands (one_reads known (codes "mthi") s (omega arith)))
reads at (MFLO d) multiple end h = alone at (MFLO d) _ multiple refl (λ known. ap with_operands (one_reads known (codes "mflo") d (omega arith)))
reads at (MTLO s) multiple end h = alone at (MTLO s) _ multiple refl (λ known. ap with_operands (one_reads known (codes "mtlo") s (omega arith)))
reads at (MULT s t) multiple end h = alone at (MULT s t) _ multiple refl (λ known. ap with_operands (two_reads known (codes "mult") s t (omega arith) (omega arith)))
reads at (MULTU s t) multiple end h = alone at (MULTU s t) _ multiple refl (λ known. ap with_operands (two_reads known (codes "multu") s t (omega arith) (omega arith)))
reads at (DIV s t) multiple end h = alone at (DIV s t) _ multiple refl (λ known. ap with_operands (two_reads known (codes "div") s t (omega arith) (omega arith)))
reads at (DIVU s t) multiple end h = alone at (DIVU s t) _ multiple refl (λ known. ap with_operands (two_reads known (codes "divu") s t (omega arith) (omega arith)))
reads at (ADD s t d) multiple end h = alone at (ADD s t d) _ multiple refl (λ known. ap with_operands (three_reads known (codes "add") d s t (omega arith) (omega arith) (omega arith)))
reads at (ADDU s t d) multiple end h = alone at (ADDU s t d) _ multiple refl (λ known. ap with_operands (three_reads known (codes "addu") d s t (omega arith) (omega arith) (omega arith)))
reads at (SUB s t d) multiple end h = alone at (SUB s t d) _ multiple refl (λ known. ap with_operands (three_reads known (codes "sub") d s t (omega arith) (omega arith) (omega arith)))
reads at (SUBU s t d) multiple end h = alone at (SUBU s t d) _ multiple refl (λ known. ap with_operands (three_reads known (codes "subu") d s t (omega arith) (omega arith) (omega arith)))
reads at (AND s t d) multiple end h = alone at (AND s t d) _ multiple refl (λ known. ap with_operands (three_reads known (codes "and") d s t (omega arith) (omega arith) (omega arith)))
reads at (OR s t d) multiple end h = alone at (OR s t d) _ multiple refl (λ known. ap with_operands (three_reads known (codes "or") d s t (omega arith) (omega arith) (omega arith)))
reads at (XOR s t d) multiple end h = alone at (XOR s t d) _ multiple refl (λ known. ap with_operands (three_reads known (codes "xor") d s t (omega arith) (omega arith) (omega arith)))
reads at (NOR s t d) multiple end h = alone at (NOR s t d) _ multiple refl (λ known. ap with_operands (three_reads known (codes "nor") d s t (omega arith) (omega arith) (omega arith)))
reads at (SLT s t d) multiple end h = alone at (SLT s t d) _ multiple refl (λ known. ap with_operands (three_reads known (codes "slt") d s t (omega arith) (omega arith) (omega arith)))
reads at (SLTU s t d) multiple end h = alone at (SLTU s t d) _ multiple refl (λ known. ap with_operands (three_reads known (codes "sltu") d s t (omega arith) (omega arith) (omega arith)))
reads at (BLTZ s imm) multiple end h = one_to_reads at (BLTZ s imm) s imm (λ target e. branches at (BLTZ s 0) target imm _ multiple (branch_back (at + 4) imm target (omega arith) end (omega arith) e) refl
    (λ known. ap with_operands (branch_one_reads known (codes "bltz") s (pos target) (omega arith))))
reads at (BGEZ s imm) multiple end h = one_to_reads at (BGEZ s imm) s imm (λ target e. branches at (BGEZ s 0) target imm _ multiple (branch_back (at + 4) imm target (omega arith) end (omega arith) e) refl
    (λ known. ap with_operands (branch_one_reads known (codes "bgez") s (pos target) (omega arith))))
reads at (BLTZAL s imm) multiple end h = one_to_reads at (BLTZAL s imm) s imm (λ target e. branches at (BLTZAL s 0) target imm _ multiple (branch_back (at + 4) imm target (omega arith) end (omega arith) e) refl
    (λ known. ap with_operands (branch_one_reads known (codes "bltzal") s (pos target) (omega arith))))
reads at (BGEZAL s imm) multiple end h = one_to_reads at (BGEZAL s imm) s imm (λ target e. branches at (BGEZAL s 0) target imm _ multiple (branch_back (at + 4) imm target (omega arith) end (omega arith) e) refl
    (λ known. ap with_operands (branch_one_reads known (codes "bgezal") s (pos target) (omega arith))))
reads at (J target) multiple end h = jumps at (J 0) (jump_target (at + 4) target) target _ multiple (jump_back (at + 4) target (omega arith)) refl (λ known. ap with_operands (jump_reads known (codes "j") (pos (jump_target (at + 4) target))))
reads at (JAL target) multiple end h = jumps at (JAL 0) (jump_target (at + 4) target) target _ multiple (jump_back (at + 4) target (omega arith)) refl (λ known. ap with_operands (jump_reads known (codes "jal") (pos (jump_target (at + 4) target))))
reads at (BEQ s t imm) multiple end h = two_to_reads at (BEQ s t imm) s t imm (λ target e. branches at (BEQ s t 0) target imm _ multiple (branch_back (at + 4) imm target (omega arith) end (omega arith) e) refl
    (λ known. ap with_operands (branch_two_reads known (codes "beq") s t (pos target) (omega arith) (omega arith))))
reads at (BNE s t imm) multiple end h = two_to_reads at (BNE s t imm) s t imm (λ target e. branches at (BNE s t 0) target imm _ multiple (branch_back (at + 4) imm target (omega arith) end (omega arith) e) refl
    (λ known. ap with_operands (branch_two_reads known (codes "bne") s t (pos target) (omega arith) (omega arith))))
reads at (BLEZ s imm) multiple end h = one_to_reads at (BLEZ s imm) s imm (λ target e. branches at (BLEZ s 0) target imm _ multiple (branch_back (at + 4) imm target (omega arith) end (omega arith) e) refl
    (λ known. ap with_operands (branch_one_reads known (codes "blez") s (pos target) (omega arith))))
reads at (BGTZ s imm) multiple end h = one_to_reads at (BGTZ s imm) s imm (λ target e. branches at (BGTZ s 0) target imm _ multiple (branch_back (at + 4) imm target (omega arith) end (omega arith) e) refl
    (λ known. ap with_operands (branch_one_reads known (codes "bgtz") s (pos target) (omega arith))))
reads at (ADDI s t imm) multiple end h = alone at (ADDI s t imm) _ multiple refl (λ known. ap with_operands (signed_reads_as known (codes "addi") t s imm (omega arith) (omega arith) (omega arith)))
reads at (ADDIU s t imm) multiple end h = alone at (ADDIU s t imm) _ multiple refl (λ known. ap with_operands (signed_reads_as known (codes "addiu") t s imm (omega arith) (omega arith) (omega arith)))
reads at (SLTI s t imm) multiple end h = alone at (SLTI s t imm) _ multiple refl (λ known. ap with_operands (signed_reads_as known (codes "slti") t s imm (omega arith) (omega arith) (omega arith)))
reads at (SLTIU s t imm) multiple end h = alone at (SLTIU s t imm) _ multiple refl (λ known. ap with_operands (signed_reads_as known (codes "sltiu") t s imm (omega arith) (omega arith) (omega arith)))
reads at (ANDI s t imm) multiple end h = alone at (ANDI s t imm) _ multiple refl (λ known. ap with_operands (unsigned_reads known (codes "andi") t s imm (omega arith) (omega arith) (omega arith)))
reads at (ORI s t imm) multiple end h = alone at (ORI s t imm) _ multiple refl (λ known. ap with_operands (unsigned_reads known (codes "ori") t s imm (omega arith) (omega arith) (omega arith)))
reads at (XORI s t imm) multiple end h = alone at (XORI s t imm) _ multiple refl (λ known. ap with_operands (unsigned_reads known (codes "xori") t s imm (omega arith) (omega arith) (omega arith)))
reads at (LUI t imm) multiple end h = alone at (LUI t imm) _ multiple refl (λ known. ap with_operands (upper_reads known (codes "lui") t imm (omega arith) (omega arith)))
reads at (LB s t imm) multiple end h = alone at (LB s t imm) _ multiple refl (λ known. ap with_operands (place_reads known (codes "lb") t imm s (omega arith) (omega arith) (omega arith)))
reads at (LH s t imm) multiple end h = alone at (LH s t imm) _ multiple refl (λ known. ap with_operands (place_reads known (codes "lh") t imm s (omega arith) (omega arith) (omega arith)))
reads at (LWL s t imm) multiple end h = alone at (LWL s t imm) _ multiple refl (λ known. ap with_operands (place_reads known (codes "lwl") t imm s (omega arith) (omega arith) (omega arith)))
reads at (LW s t imm) multiple end h = alone at (LW s t imm) _ multiple refl (λ known. ap with_operands (place_reads known (codes "lw") t imm s (omega arith) (omega arith) (omega arith)))
reads at (LBU s t imm) multiple end h = alone at (LBU s t imm) _ multiple refl (λ known. ap with_operands (place_reads known (codes "lbu") t imm s (omega arith) (omega arith) (omega arith)))
reads at (LHU s t imm) multiple end h = alone at (LHU s t imm) _ multiple refl (λ known. ap with_operands (place_reads known (codes "lhu") t imm s (omega arith) (omega arith) (omega arith)))
reads at (LWR s t imm) multiple end h = alone at (LWR s t imm) _ multiple refl (λ known. ap with_operands (place_reads known (codes "lwr") t imm s (omega arith) (omega arith) (omega arith)))
reads at (SB s t imm) multiple end h = alone at (SB s t imm) _ multiple refl (λ known. ap with_operands (place_reads known (codes "sb") t imm s (omega arith) (omega arith) (omega arith)))
reads at (SH s t imm) multiple end h = alone at (SH s t imm) _ multiple refl (λ known. ap with_operands (place_reads known (codes "sh") t imm s (omega arith) (omega arith) (omega arith)))
reads at (SWL s t imm) multiple end h = alone at (SWL s t imm) _ multiple refl (λ known. ap with_operands (place_reads known (codes "swl") t imm s (omega arith) (omega arith) (omega arith)))
reads at (SW s t imm) multiple end h = alone at (SW s t imm) _ multiple refl (λ known. ap with_operands (place_reads known (codes "sw") t imm s (omega arith) (omega arith) (omega arith)))
reads at (SWR s t imm) multiple end h = alone at (SWR s t imm) _ multiple refl (λ known. ap with_operands (place_reads known (codes "swr") t imm s (omega arith) (omega arith) (omega arith)))
reads at (MFC0 t d) multiple end h = alone at (MFC0 t d) _ multiple refl (λ known. ap with_operands (coprocessor_reads known (codes "mfc0") t d (omega arith) (omega arith)))
reads at (MTC0 t d) multiple end h = alone at (MTC0 t d) _ multiple refl (λ known. ap with_operands (coprocessor_reads known (codes "mtc0") t d (omega arith) (omega arith)))
reads at RFE multiple end h = alone at RFE _ multiple refl (λ known. ap with_operands (bare_reads known (codes "rfe")))
