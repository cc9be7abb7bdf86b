-- The instruction that a word is taken apart to has that word and fits it.
use Rattle.std.proofs.Common.{◌≡◌, ℕ, ◌+◌, ◌/◌, ◌%◌, ◌^◌, ◌<◌, ◌&&◌, true, nat_lt, nat_eq, IsTrue, Option, Some, None, sym, ap, subst, ◌∙◌, arith}
use Rattle.std.specs.Prelude.{if◌then◌else◌}
use Rattle.std.proofs.lemmas.Bool.{cond_both, eqb-true}
use Rattle.psx_ins.specs.declared.reg.Reg.{Reg}
use Rattle.psx_ins.specs.declared.ins.Ins.{Ins}
use Rattle.psx_ins.specs.declared.ins.Ins.TheVariants.{SLL, SRL, SRA, SLLV, SRLV, SRAV, JR, JALR, SYSCALL, BREAK, MFHI, MTHI, MFLO, MTLO, MULT, MULTU, DIV, DIVU, ADD, ADDU, SUB, SUBU, AND, OR, XOR, NOR, SLT, SLTU, BLTZ, BGEZ, BLTZAL, BGEZAL, J, JAL, BEQ, BNE, BLEZ, BGTZ, ADDI, ADDIU, SLTI, SLTIU, ANDI, ORI, XORI, LUI, LB, LH, LWL, LW, LBU, LHU, LWR, SB, SH, SWL, SW, SWR, MFC0, MTC0, RFE}
use Rattle.psx_ins.specs.declared.form.Form.{Form}
use Rattle.psx_ins.specs.declared.form.Form.TheVariants.{Register, Immediate, Jump, Code}
use Rattle.psx_ins.specs.Forms.{reg, form_word, form_fits}
use Rattle.psx_ins.specs.Words.{form, word, fits_fields}
use Rattle.psx_ins.specs.Special.{if_zero, code_by, special_by}
use Rattle.psx_ins.specs.Decoding.{sign_by, coprocessor_by, immediate_by, instruction_by, instruction_of}

-- each number is below the limit of its field
abbrev pub IsBounded : Form → Type 0
IsBounded (Register op s t d n funct) = (op < 64) × (funct < 64) × (s.0 < 32) × (t.0 < 32) × (d.0 < 32) × (n < 32)
IsBounded (Immediate op s t imm) = (op < 64) × (s.0 < 32) × (t.0 < 32) × (imm < 2 ^ 16)
IsBounded (Jump op target) = (op < 64) × (target < 2 ^ 26)
IsBounded (Code code funct) = (funct < 64) × (code < 2 ^ 20)

register_fit : (op s t d n funct : ℕ) → (op < 64) × (funct < 64) × (s < 32) × (t < 32) × (d < 32) × (n < 32)
    → (nat_lt op 64 && nat_lt funct 64 && nat_lt s 32 && nat_lt t 32 && nat_lt d 32 && nat_lt n 32) ≡ true
register_fit op s t d n funct h = grind arith

immediate_fit : (op s t imm : ℕ) → (op < 64) × (s < 32) × (t < 32) × (imm < 2 ^ 16) → (nat_lt op 64 && nat_lt s 32 && nat_lt t 32 && nat_lt imm (2 ^ 16)) ≡ true
immediate_fit op s t imm h = grind arith

two_fit : (a b m n : ℕ) → (a < m) × (b < n) → (nat_lt a m && nat_lt b n) ≡ true
two_fit a b m n h = grind arith

bounded_fits : (f : Form) → IsBounded f → form_fits f ≡ true
bounded_fits (Register op s t d n funct) h = register_fit op s.0 t.0 d.0 n funct h
bounded_fits (Immediate op s t imm) h = immediate_fit op s.0 t.0 imm h
bounded_fits (Jump op target) h = two_fit op target 64 (2 ^ 26) h
bounded_fits (Code code funct) h = two_fit funct code 64 (2 ^ 20) h

abbrev IfFound : ℕ → Option Ins → Type 0
IfFound w (Some i) = (word i ≡ w) × IsTrue (fits_fields i)
IfFound w None = Unit {0}

-- where a word has an instruction, it has the word and fits it
record HasWord (w : ℕ) (found : Option Ins) : Type 0 where
  says : IfFound w found

leaf : (w : ℕ) (i : Ins) → (word i ≡ w) × IsBounded (form i) → HasWord w (Some i)
leaf w i h = record { says = (h.0, bounded_fits (form i) h.1) }

test : (w a b : ℕ) (x y : Option Ins) → (a ≡ b → HasWord w x) → HasWord w y → HasWord w (if nat_eq a b then x else y)
test w a b x y here there = cond_both (nat_eq a b) x y (HasWord w) (λ e. here (eqb-true a b e)) (λ e. there)

-- an instruction of one code
arm : (w a b : ℕ) (i : Ins) (y : Option Ins) → (a ≡ b → (word i ≡ w) × IsBounded (form i)) → HasWord w y → HasWord w (if nat_eq a b then Some i else y)
arm w a b i y h there = test w a b (Some i) y (λ e. leaf w i (h e)) there

-- the same where unused fields have to be 0
zero_leaf : (w rest : ℕ) (i : Ins) → (rest ≡ 0 → (word i ≡ w) × IsBounded (form i)) → HasWord w (if_zero rest i)
zero_leaf w rest i h = test w rest 0 (Some i) None (λ e. leaf w i (h e)) (record { says = tt })

zero_arm : (w a b rest : ℕ) (i : Ins) (y : Option Ins) → (a ≡ b → rest ≡ 0 → (word i ≡ w) × IsBounded (form i)) → HasWord w y
    → HasWord w (if nat_eq a b then if_zero rest i else y)
zero_arm w a b rest i y h there = test w a b (if_zero rest i) y (λ e. zero_leaf w rest i (h e)) there

none : {w : ℕ} → HasWord w None
none = record { says = tt }

special_found : (s t d : Reg) (n funct : ℕ) → (funct < 64) × (s.0 < 32) × (t.0 < 32) × (d.0 < 32) × (n < 32)
    → HasWord (form_word (Register 0 s t d n funct)) (special_by s t d n funct)
special_found s t d n funct h =
    zero_arm _ funct 0x00 s.0 (SLL t d n) _ (omega arith)
    (zero_arm _ funct 0x02 s.0 (SRL t d n) _ (omega arith)
    (zero_arm _ funct 0x03 s.0 (SRA t d n) _ (omega arith)
    (zero_arm _ funct 0x04 n (SLLV s t d) _ (omega arith)
    (zero_arm _ funct 0x06 n (SRLV s t d) _ (omega arith)
    (zero_arm _ funct 0x07 n (SRAV s t d) _ (omega arith)
    (zero_arm _ funct 0x08 (t.0 + d.0 + n) (JR s) _ (omega arith)
    (zero_arm _ funct 0x09 (t.0 + n) (JALR s d) _ (omega arith)
    (arm _ funct 0x0C (SYSCALL (code_by s t d n)) _ (omega arith)
    (arm _ funct 0x0D (BREAK (code_by s t d n)) _ (omega arith)
    (zero_arm _ funct 0x10 (s.0 + t.0 + n) (MFHI d) _ (omega arith)
    (zero_arm _ funct 0x11 (t.0 + d.0 + n) (MTHI s) _ (omega arith)
    (zero_arm _ funct 0x12 (s.0 + t.0 + n) (MFLO d) _ (omega arith)
    (zero_arm _ funct 0x13 (t.0 + d.0 + n) (MTLO s) _ (omega arith)
    (zero_arm _ funct 0x18 (d.0 + n) (MULT s t) _ (omega arith)
    (zero_arm _ funct 0x19 (d.0 + n) (MULTU s t) _ (omega arith)
    (zero_arm _ funct 0x1A (d.0 + n) (DIV s t) _ (omega arith)
    (zero_arm _ funct 0x1B (d.0 + n) (DIVU s t) _ (omega arith)
    (zero_arm _ funct 0x20 n (ADD s t d) _ (omega arith)
    (zero_arm _ funct 0x21 n (ADDU s t d) _ (omega arith)
    (zero_arm _ funct 0x22 n (SUB s t d) _ (omega arith)
    (zero_arm _ funct 0x23 n (SUBU s t d) _ (omega arith)
    (zero_arm _ funct 0x24 n (AND s t d) _ (omega arith)
    (zero_arm _ funct 0x25 n (OR s t d) _ (omega arith)
    (zero_arm _ funct 0x26 n (XOR s t d) _ (omega arith)
    (zero_arm _ funct 0x27 n (NOR s t d) _ (omega arith)
    (zero_arm _ funct 0x2A n (SLT s t d) _ (omega arith)
    (zero_arm _ funct 0x2B n (SLTU s t d) _ (omega arith) none)))))))))))))))))))))))))))

sign_found : (s : Reg) (t imm : ℕ) → (s.0 < 32) × (imm < 2 ^ 16) → HasWord (form_word (Immediate 1 s (reg t) imm)) (sign_by s t imm)
sign_found s t imm h =
    arm _ t 0x00 (BLTZ s imm) _ (omega arith)
    (arm _ t 0x01 (BGEZ s imm) _ (omega arith)
    (arm _ t 0x10 (BLTZAL s imm) _ (omega arith)
    (arm _ t 0x11 (BGEZAL s imm) _ (omega arith) none)))

immediate_found : (op : ℕ) (s t : Reg) (imm : ℕ) → (s.0 < 32) × (t.0 < 32) × (imm < 2 ^ 16) → HasWord (form_word (Immediate op s t imm)) (immediate_by op s t imm)
immediate_found op s t imm h =
    arm _ op 0x04 (BEQ s t imm) _ (omega arith)
    (arm _ op 0x05 (BNE s t imm) _ (omega arith)
    (zero_arm _ op 0x06 t.0 (BLEZ s imm) _ (omega arith)
    (zero_arm _ op 0x07 t.0 (BGTZ s imm) _ (omega arith)
    (arm _ op 0x08 (ADDI s t imm) _ (omega arith)
    (arm _ op 0x09 (ADDIU s t imm) _ (omega arith)
    (arm _ op 0x0A (SLTI s t imm) _ (omega arith)
    (arm _ op 0x0B (SLTIU s t imm) _ (omega arith)
    (arm _ op 0x0C (ANDI s t imm) _ (omega arith)
    (arm _ op 0x0D (ORI s t imm) _ (omega arith)
    (arm _ op 0x0E (XORI s t imm) _ (omega arith)
    (zero_arm _ op 0x0F s.0 (LUI t imm) _ (omega arith)
    (arm _ op 0x20 (LB s t imm) _ (omega arith)
    (arm _ op 0x21 (LH s t imm) _ (omega arith)
    (arm _ op 0x22 (LWL s t imm) _ (omega arith)
    (arm _ op 0x23 (LW s t imm) _ (omega arith)
    (arm _ op 0x24 (LBU s t imm) _ (omega arith)
    (arm _ op 0x25 (LHU s t imm) _ (omega arith)
    (arm _ op 0x26 (LWR s t imm) _ (omega arith)
    (arm _ op 0x28 (SB s t imm) _ (omega arith)
    (arm _ op 0x29 (SH s t imm) _ (omega arith)
    (arm _ op 0x2A (SWL s t imm) _ (omega arith)
    (arm _ op 0x2B (SW s t imm) _ (omega arith)
    (arm _ op 0x2E (SWR s t imm) _ (omega arith) none)))))))))))))))))))))))

coprocessor_found : (s : ℕ) (t d : Reg) (n funct : ℕ) → (t.0 < 32) × (d.0 < 32) × (n < 32) × (funct < 64)
    → HasWord (form_word (Register 0x10 (reg s) t d n funct)) (coprocessor_by s t d n funct)
coprocessor_found s t d n funct h =
    zero_arm _ s 0x00 (n + funct) (MFC0 t d) _ (omega arith)
    (zero_arm _ s 0x04 (n + funct) (MTC0 t d) _ (omega arith)
    (test _ s 0x10 _ _ (λ e. zero_arm _ funct 0x10 (t.0 + d.0 + n) RFE _ (omega arith) none) none))

-- by all fields, each below its limit
by_found : (w op : ℕ) (s t d : Reg) (n funct imm target : ℕ) → (op < 64) × (funct < 64) × (s.0 < 32) × (t.0 < 32) × (d.0 < 32) × (n < 32)
    → (imm < 2 ^ 16) × (target < 2 ^ 26) → form_word (Register op s t d n funct) ≡ w → form_word (Immediate op s t imm) ≡ w → form_word (Jump op target) ≡ w
    → HasWord w (instruction_by op s t d n funct imm target)
by_found w op s t d n funct imm target h k r i j =
    test w op 0x00 _ _ (λ e. subst (λ (v : ℕ). HasWord v (special_by s t d n funct)) (ap (λ (o : ℕ). form_word (Register o s t d n funct)) (sym e) ∙ r) (special_found s t d n funct (omega arith)))
    (test w op 0x01 _ _ (λ e. subst (λ (v : ℕ). HasWord v (sign_by s t.0 imm)) (ap (λ (o : ℕ). form_word (Immediate o s t imm)) (sym e) ∙ i) (sign_found s t.0 imm (omega arith)))
    (arm w op 0x02 (J target) _ (omega arith)
    (arm w op 0x03 (JAL target) _ (omega arith)
    (test w op 0x10 _ _
    (λ e. subst (λ (v : ℕ). HasWord v (coprocessor_by s.0 t d n funct)) (ap (λ (o : ℕ). form_word (Register o s t d n funct)) (sym e) ∙ r) (coprocessor_found s.0 t d n funct (omega arith)))
    (subst (λ (v : ℕ). HasWord v (immediate_by op s t imm)) i (immediate_found op s t imm (omega arith)))))))

has_word : (w : ℕ) → w < 2 ^ 32 → HasWord w (instruction_of w)
unfolding instruction_of
has_word w small = by_found w (w / 2 ^ 26) (reg (w / 2 ^ 21 % 32)) (reg (w / 2 ^ 16 % 32)) (reg (w / 2 ^ 11 % 32)) (w / 2 ^ 6 % 32) (w % 64) (w % 2 ^ 16) (w % 2 ^ 26)
    (omega arith) (omega arith) (omega arith) (omega arith) (omega arith)

pub found : (w : ℕ) (i : Ins) → w < 2 ^ 32 → instruction_of w ≡ Some i → (word i ≡ w) × IsTrue (fits_fields i)
found w i small e = (subst (HasWord w) e (has_word w small)).says
