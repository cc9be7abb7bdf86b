-- The operands of an instruction that fits have numbers below the limits of their places.
use Rattle.std.proofs.Common.{◌≡◌, ℕ, ◌+◌, ◌-◌, ◌*◌, ◌^◌, ◌<◌, ◌≤◌, ◌&&◌, true, nat_lt, nat_le, IsTrue, Option, Some, None, arith}
use Rattle.std.proofs.lemmas.Bool.{cond_both, ltb-true}
use Rattle.psx_ins.specs.declared.reg.Reg.{Reg}
use Rattle.psx_ins.specs.declared.ins.Ins.{Ins}
use Rattle.psx_ins.specs.declared.ins.Ins.TheVariants.{SLL, BLTZ, BGEZ, BLTZAL, BGEZAL, BEQ, BNE, BLEZ, BGTZ}
use Rattle.psx_ins.specs.declared.form.Form.{Form}
use Rattle.psx_ins.specs.declared.form.Form.TheVariants.{Register, Immediate, Jump, Code}
use Rattle.psx_ins.specs.Forms.{form_fits}
use Rattle.psx_ins.specs.Words.{form, fits_fields}
use Rattle.psx_dis.specs.declared.operands.Operands.{Operands}
use Rattle.psx_dis.specs.Targets.{branch_target}
use Rattle.psx_dis.specs.Operands.{one_to, two_to, operands}
use Rattle.psx_dis.proofs.SpelledLines.{OperandsFit}
use Rattle.psx_dis.proofs.Found.{IsBounded}

register_bounded : (op s t d n funct : ℕ) → (nat_lt op 64 && nat_lt funct 64 && nat_lt s 32 && nat_lt t 32 && nat_lt d 32 && nat_lt n 32) ≡ true
    → (op < 64) × (funct < 64) × (s < 32) × (t < 32) × (d < 32) × (n < 32)
register_bounded op s t d n funct h = grind arith

immediate_bounded : (op s t imm : ℕ) → (nat_lt op 64 && nat_lt s 32 && nat_lt t 32 && nat_lt imm (2 ^ 16)) ≡ true → (op < 64) × (s < 32) × (t < 32) × (imm < 2 ^ 16)
immediate_bounded op s t imm h = grind arith

two_bounded : (a b m n : ℕ) → (nat_lt a m && nat_lt b n) ≡ true → (a < m) × (b < n)
two_bounded a b m n h = grind arith

form_bounded : (f : Form) → IsTrue (form_fits f) → IsBounded f
form_bounded (Register op s t d n funct) h = register_bounded op s.0 t.0 d.0 n funct h
form_bounded (Immediate op s t imm) h = immediate_bounded op s.0 t.0 imm h
form_bounded (Jump op target) h = two_bounded op target 64 (2 ^ 26) h
form_bounded (Code code funct) h = two_bounded funct code 64 (2 ^ 20) h

pub fits_bounded : (ins : Ins) → IsTrue (fits_fields ins) → IsBounded (form ins)
fits_bounded ins h = form_bounded (form ins) h

-- operands, where there are some, are below their limits
abbrev pub IfFit : Option Operands → Type 0
IfFit (Some ops) = OperandsFit ops
IfFit None = Unit {0}

abbrev IfBelow : Option ℕ → Type 0
IfBelow (Some n) = n < 2 ^ 32
IfBelow None = Unit {0}

branch_below : (slot imm : ℕ) → slot ≤ 2 ^ 32 → imm < 2 ^ 16 → IfBelow (branch_target slot imm)
branch_below slot imm end small = cond_both (nat_lt imm (2 ^ 15)) _ _ IfBelow
    (λ low. cond_both (nat_lt (slot + 4 * imm) (2 ^ 32)) _ _ IfBelow (λ below. ltb-true (slot + 4 * imm) (2 ^ 32) below) (λ above. tt))
    (λ high. cond_both (nat_le (4 * (2 ^ 16 - imm)) slot) _ _ IfBelow (λ within. omega arith) (λ past. tt))

one_to_fit : (s : Reg) (target : Option ℕ) → s.0 < 32 → IfBelow target → IfFit (one_to s target)
one_to_fit s (Some target) small below = (small, below)
one_to_fit s None small below = tt

two_to_fit : (s t : Reg) (target : Option ℕ) → s.0 < 32 → t.0 < 32 → IfBelow target → IfFit (two_to s t target)
two_to_fit s t (Some target) small less below = (small, less, below)
two_to_fit s t None small less below = tt

pub operands_fit : (slot : ℕ) (ins : Ins) → slot ≤ 2 ^ 32 → IsBounded (form ins) → IfFit (operands slot ins)
operands_fit slot (BLTZ s imm) end h = one_to_fit s (branch_target slot imm) (omega arith) (branch_below slot imm end (omega arith))
operands_fit slot (BGEZ s imm) end h = one_to_fit s (branch_target slot imm) (omega arith) (branch_below slot imm end (omega arith))
operands_fit slot (BLTZAL s imm) end h = one_to_fit s (branch_target slot imm) (omega arith) (branch_below slot imm end (omega arith))
operands_fit slot (BGEZAL s imm) end h = one_to_fit s (branch_target slot imm) (omega arith) (branch_below slot imm end (omega arith))
operands_fit slot (BLEZ s imm) end h = one_to_fit s (branch_target slot imm) (omega arith) (branch_below slot imm end (omega arith))
operands_fit slot (BGTZ s imm) end h = one_to_fit s (branch_target slot imm) (omega arith) (branch_below slot imm end (omega arith))
operands_fit slot (BEQ s t imm) end h = two_to_fit s t (branch_target slot imm) (omega arith) (omega arith) (branch_below slot imm end (omega arith))
operands_fit slot (BNE s t imm) end h = two_to_fit s t (branch_target slot imm) (omega arith) (omega arith) (branch_below slot imm end (omega arith))
operands_fit slot (SLL t d n) end h = omega arith
operands_fit slot _ end h = omega arith
