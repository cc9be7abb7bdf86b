-- Each instruction that fits is the one that its word is taken apart to, so no two have one word.
use Rattle.std.proofs.Common.{◌≡◌, ℕ, ◌+◌, ◌*◌, ◌/◌, ◌%◌, ◌^◌, ◌<◌, ◌&&◌, nat_lt, IsTrue, Some, None, ap, sym, ◌∙◌, arith}
use Rattle.psx_ins.specs.declared.reg.Reg.{Reg}
use Rattle.psx_ins.specs.declared.ins.Ins.{Ins}
use Rattle.psx_ins.specs.declared.ins.Ins.TheVariants.{SLL, SRL, SRA, SLLV, SRLV, SRAV, JR, JALR, SYSCALL, BREAK, MFHI, MTHI, MFLO, MTLO, MULT, MULTU, DIV, DIVU, ADD, ADDU, SUB, SUBU, AND, OR, XOR, NOR, SLT, SLTU, BLTZ, BGEZ, BLTZAL, BGEZAL, J, JAL, BEQ, BNE, BLEZ, BGTZ, ADDI, ADDIU, SLTI, SLTIU, ANDI, ORI, XORI, LUI, LB, LH, LWL, LW, LBU, LHU, LWR, SB, SH, SWL, SW, SWR, MFC0, MTC0, RFE}
use Rattle.psx_ins.specs.declared.form.Form.TheVariants.{Register, Immediate, Jump, Code}
use Rattle.psx_ins.specs.Forms.{reg, unused, form_word, form_fits}
use Rattle.psx_ins.specs.Words.{word, fits_fields}
use Rattle.psx_ins.specs.Decoding.{instruction_by, instruction_of}

register_fits : (op s t d n funct : ℕ) →
    IsTrue (nat_lt op 64 && nat_lt funct 64 && nat_lt s 32 && nat_lt t 32 && nat_lt d 32 && nat_lt n 32) →
    (op < 64) × (s < 32) × (t < 32) × (d < 32) × (n < 32) × (funct < 64)
register_fits op s t d n funct h = grind arith

immediate_fits : (op s t imm : ℕ) →
    IsTrue (nat_lt op 64 && nat_lt s 32 && nat_lt t 32 && nat_lt imm (2 ^ 16)) →
    (op < 64) × (s < 32) × (t < 32) × (imm < 2 ^ 16)
immediate_fits op s t imm h = grind arith

jump_fits : (op target : ℕ) → IsTrue (nat_lt op 64 && nat_lt target (2 ^ 26)) → (op < 64) × (target < 2 ^ 26)
jump_fits op target h = grind arith

code_fits : (code funct : ℕ) →
    IsTrue (nat_lt funct 64 && nat_lt code (2 ^ 20)) →
    (funct < 64) × (code < 2 ^ 20)
code_fits code funct h = grind arith

-- the fields of a word in each layout
by_register_at : (op s t d n funct : ℕ) →
    (op < 64) × (s < 32) × (t < 32) × (d < 32) × (n < 32) × (funct < 64) →
    instruction_of (form_word (Register op (reg s) (reg t) (reg d) n funct))
    ≡ instruction_by op (reg s) (reg t) (reg d) n funct
    (d * 2 ^ 11 + n * 2 ^ 6 + funct) (s * 2 ^ 21 + t * 2 ^ 16 + d * 2 ^ 11 + n * 2 ^ 6 + funct)
unfolding instruction_of
by_register_at op s t d n funct h =
    let w : ℕ = op * 2 ^ 26 + s * 2 ^ 21 + t * 2 ^ 16 + d * 2 ^ 11 + n * 2 ^ 6 + funct in
    let p0 : w / 2 ^ 26 ≡ op = omega arith in
    let p1 : w / 2 ^ 21 % 32 ≡ s = omega arith in
    let p2 : w / 2 ^ 16 % 32 ≡ t = omega arith in
    let p3 : w / 2 ^ 11 % 32 ≡ d = omega arith in
    let p4 : w / 2 ^ 6 % 32 ≡ n = omega arith in
    let p5 : w % 64 ≡ funct = omega arith in
    let p6 : w % 2 ^ 16 ≡ d * 2 ^ 11 + n * 2 ^ 6 + funct = omega arith in
    let p7 : w % 2 ^ 26 ≡ s * 2 ^ 21 + t * 2 ^ 16 + d * 2 ^ 11 + n * 2 ^ 6 + funct = omega arith in
    λ i. instruction_by (p0 i) (reg (p1 i)) (reg (p2 i)) (reg (p3 i)) (p4 i) (p5 i) (p6 i) (p7 i)

by_immediate_at : (op s t imm : ℕ) →
    (op < 64) × (s < 32) × (t < 32) × (imm < 2 ^ 16) →
    instruction_of (form_word (Immediate op (reg s) (reg t) imm))
    ≡ instruction_by op (reg s) (reg t) (reg (imm / 2 ^ 11)) (imm / 2 ^ 6 % 32) (imm % 64)
    imm (s * 2 ^ 21 + t * 2 ^ 16 + imm)
unfolding instruction_of
by_immediate_at op s t imm h =
    let w : ℕ = op * 2 ^ 26 + s * 2 ^ 21 + t * 2 ^ 16 + imm in
    let p0 : w / 2 ^ 26 ≡ op = omega arith in
    let p1 : w / 2 ^ 21 % 32 ≡ s = omega arith in
    let p2 : w / 2 ^ 16 % 32 ≡ t = omega arith in
    let p3 : w / 2 ^ 11 % 32 ≡ imm / 2 ^ 11 = omega arith in
    let p4 : w / 2 ^ 6 % 32 ≡ imm / 2 ^ 6 % 32 = omega arith in
    let p5 : w % 64 ≡ imm % 64 = omega arith in
    let p6 : w % 2 ^ 16 ≡ imm = omega arith in
    let p7 : w % 2 ^ 26 ≡ s * 2 ^ 21 + t * 2 ^ 16 + imm = omega arith in
    λ i. instruction_by (p0 i) (reg (p1 i)) (reg (p2 i)) (reg (p3 i)) (p4 i) (p5 i) (p6 i) (p7 i)

by_register : (op : ℕ) (s t d : Reg) (n funct : ℕ) →
    IsTrue (form_fits (Register op s t d n funct)) →
    instruction_of (form_word (Register op s t d n funct))
    ≡ instruction_by op s t d n funct
    (d.0 * 2 ^ 11 + n * 2 ^ 6 + funct) (s.0 * 2 ^ 21 + t.0 * 2 ^ 16 + d.0 * 2 ^ 11 + n * 2 ^ 6 + funct)
by_register op s t d n funct h = by_register_at op s.0 t.0 d.0 n funct (register_fits op s.0 t.0 d.0 n funct h)

by_immediate : (op : ℕ) (s t : Reg) (imm : ℕ) →
    IsTrue (form_fits (Immediate op s t imm)) →
    instruction_of (form_word (Immediate op s t imm))
    ≡ instruction_by op s t (reg (imm / 2 ^ 11)) (imm / 2 ^ 6 % 32) (imm % 64)
    imm (s.0 * 2 ^ 21 + t.0 * 2 ^ 16 + imm)
by_immediate op s t imm h = by_immediate_at op s.0 t.0 imm (immediate_fits op s.0 t.0 imm h)

by_jump : (op target : ℕ) →
    IsTrue (form_fits (Jump op target)) →
    instruction_of (form_word (Jump op target))
    ≡ instruction_by op (reg (target / 2 ^ 21)) (reg (target / 2 ^ 16 % 32)) (reg (target / 2 ^ 11 % 32)) (target / 2 ^ 6 % 32) (target % 64)
    (target % 2 ^ 16) target
unfolding instruction_of
by_jump op target fits =
    let h : (op < 64) × (target < 2 ^ 26) = jump_fits op target fits in
    let w : ℕ = op * 2 ^ 26 + target in
    let p0 : w / 2 ^ 26 ≡ op = omega arith in
    let p1 : w / 2 ^ 21 % 32 ≡ target / 2 ^ 21 = omega arith in
    let p2 : w / 2 ^ 16 % 32 ≡ target / 2 ^ 16 % 32 = omega arith in
    let p3 : w / 2 ^ 11 % 32 ≡ target / 2 ^ 11 % 32 = omega arith in
    let p4 : w / 2 ^ 6 % 32 ≡ target / 2 ^ 6 % 32 = omega arith in
    let p5 : w % 64 ≡ target % 64 = omega arith in
    let p6 : w % 2 ^ 16 ≡ target % 2 ^ 16 = omega arith in
    let p7 : w % 2 ^ 26 ≡ target = omega arith in
    λ i. instruction_by (p0 i) (reg (p1 i)) (reg (p2 i)) (reg (p3 i)) (p4 i) (p5 i) (p6 i) (p7 i)

by_code : (code funct : ℕ) →
    IsTrue (form_fits (Code code funct)) →
    instruction_of (form_word (Code code funct))
    ≡ instruction_by 0 (reg (code / 2 ^ 15)) (reg (code / 2 ^ 10 % 32)) (reg (code / 32 % 32)) (code % 32) funct
    ((code * 64 + funct) % 2 ^ 16) (code * 64 + funct)
unfolding instruction_of
by_code code funct fits =
    let h : (funct < 64) × (code < 2 ^ 20) = code_fits code funct fits in
    let w : ℕ = code * 2 ^ 6 + funct in
    let p0 : w / 2 ^ 26 ≡ 0 = omega arith in
    let p1 : w / 2 ^ 21 % 32 ≡ code / 2 ^ 15 = omega arith in
    let p2 : w / 2 ^ 16 % 32 ≡ code / 2 ^ 10 % 32 = omega arith in
    let p3 : w / 2 ^ 11 % 32 ≡ code / 32 % 32 = omega arith in
    let p4 : w / 2 ^ 6 % 32 ≡ code % 32 = omega arith in
    let p5 : w % 64 ≡ funct = omega arith in
    let p6 : w % 2 ^ 16 ≡ (code * 64 + funct) % 2 ^ 16 = omega arith in
    let p7 : w % 2 ^ 26 ≡ code * 64 + funct = omega arith in
    λ i. instruction_by (p0 i) (reg (p1 i)) (reg (p2 i)) (reg (p3 i)) (p4 i) (p5 i) (p6 i) (p7 i)

code_again : (code : ℕ) → (((code / 2 ^ 15) * 32 + code / 2 ^ 10 % 32) * 32 + code / 32 % 32) * 32 + code % 32 ≡ code
code_again code = omega arith

-- the instruction that each instruction's word is taken apart to is that instruction
pub decodes : (i : Ins) → IsTrue (fits_fields i) → instruction_of (word i) ≡ Some i
decodes (SLL t d n) h = by_register 0x00 unused t d n 0x00 h
decodes (SRL t d n) h = by_register 0x00 unused t d n 0x02 h
decodes (SRA t d n) h = by_register 0x00 unused t d n 0x03 h
decodes (SLLV s t d) h = by_register 0x00 s t d 0 0x04 h
decodes (SRLV s t d) h = by_register 0x00 s t d 0 0x06 h
decodes (SRAV s t d) h = by_register 0x00 s t d 0 0x07 h
decodes (JR s) h = by_register 0x00 s unused unused 0 0x08 h
decodes (JALR s d) h = by_register 0x00 s unused d 0 0x09 h
decodes (SYSCALL code) h = by_code code 0x0C h ∙ ap (λ c. Some (SYSCALL c)) (code_again code)
decodes (BREAK code) h = by_code code 0x0D h ∙ ap (λ c. Some (BREAK c)) (code_again code)
decodes (MFHI d) h = by_register 0x00 unused unused d 0 0x10 h
decodes (MTHI s) h = by_register 0x00 s unused unused 0 0x11 h
decodes (MFLO d) h = by_register 0x00 unused unused d 0 0x12 h
decodes (MTLO s) h = by_register 0x00 s unused unused 0 0x13 h
decodes (MULT s t) h = by_register 0x00 s t unused 0 0x18 h
decodes (MULTU s t) h = by_register 0x00 s t unused 0 0x19 h
decodes (DIV s t) h = by_register 0x00 s t unused 0 0x1A h
decodes (DIVU s t) h = by_register 0x00 s t unused 0 0x1B h
decodes (ADD s t d) h = by_register 0x00 s t d 0 0x20 h
decodes (ADDU s t d) h = by_register 0x00 s t d 0 0x21 h
decodes (SUB s t d) h = by_register 0x00 s t d 0 0x22 h
decodes (SUBU s t d) h = by_register 0x00 s t d 0 0x23 h
decodes (AND s t d) h = by_register 0x00 s t d 0 0x24 h
decodes (OR s t d) h = by_register 0x00 s t d 0 0x25 h
decodes (XOR s t d) h = by_register 0x00 s t d 0 0x26 h
decodes (NOR s t d) h = by_register 0x00 s t d 0 0x27 h
decodes (SLT s t d) h = by_register 0x00 s t d 0 0x2A h
decodes (SLTU s t d) h = by_register 0x00 s t d 0 0x2B h
decodes (BLTZ s imm) h = by_immediate 0x01 s unused imm h
decodes (BGEZ s imm) h = by_immediate 0x01 s (reg 0x01) imm h
decodes (BLTZAL s imm) h = by_immediate 0x01 s (reg 0x10) imm h
decodes (BGEZAL s imm) h = by_immediate 0x01 s (reg 0x11) imm h
decodes (J target) h = by_jump 0x02 target h
decodes (JAL target) h = by_jump 0x03 target h
decodes (BEQ s t imm) h = by_immediate 0x04 s t imm h
decodes (BNE s t imm) h = by_immediate 0x05 s t imm h
decodes (BLEZ s imm) h = by_immediate 0x06 s unused imm h
decodes (BGTZ s imm) h = by_immediate 0x07 s unused imm h
decodes (ADDI s t imm) h = by_immediate 0x08 s t imm h
decodes (ADDIU s t imm) h = by_immediate 0x09 s t imm h
decodes (SLTI s t imm) h = by_immediate 0x0A s t imm h
decodes (SLTIU s t imm) h = by_immediate 0x0B s t imm h
decodes (ANDI s t imm) h = by_immediate 0x0C s t imm h
decodes (ORI s t imm) h = by_immediate 0x0D s t imm h
decodes (XORI s t imm) h = by_immediate 0x0E s t imm h
decodes (LUI t imm) h = by_immediate 0x0F unused t imm h
decodes (LB s t imm) h = by_immediate 0x20 s t imm h
decodes (LH s t imm) h = by_immediate 0x21 s t imm h
decodes (LWL s t imm) h = by_immediate 0x22 s t imm h
decodes (LW s t imm) h = by_immediate 0x23 s t imm h
decodes (LBU s t imm) h = by_immediate 0x24 s t imm h
decodes (LHU s t imm) h = by_immediate 0x25 s t imm h
decodes (LWR s t imm) h = by_immediate 0x26 s t imm h
decodes (SB s t imm) h = by_immediate 0x28 s t imm h
decodes (SH s t imm) h = by_immediate 0x29 s t imm h
decodes (SWL s t imm) h = by_immediate 0x2A s t imm h
decodes (SW s t imm) h = by_immediate 0x2B s t imm h
decodes (SWR s t imm) h = by_immediate 0x2E s t imm h
decodes (MFC0 t d) h = by_register 0x10 unused t d 0 0x00 h
decodes (MTC0 t d) h = by_register 0x10 (reg 0x04) t d 0 0x00 h
decodes RFE h = by_register 0x10 (reg 0x10) unused unused 0 0x10 h

-- so a word that is taken apart to none is that of no instruction
pub no_word : (w : ℕ) → instruction_of w ≡ None → (i : Ins) → IsTrue (fits_fields i) → word i ≡ w → ⊥
no_word w none i fits is =
    let e : Some i ≡ None = sym (decodes i fits) ∙ ap instruction_of is ∙ none in
    cc
