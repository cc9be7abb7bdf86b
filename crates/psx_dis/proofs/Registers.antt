-- The numbers and registers of the printed form as the assembler reads them.
use Rattle.std.proofs.Common.{◌≡◌, ℕ, zero, suc, ◌-◌, ◌<◌, ◌≤◌, ◌^◌, pos, neg_ℤ, Bool, true, false, ◌==◌, ◌∷◌, decimal, nat_lt, Option, Some, None, refl, ap, ◌∙◌, ⊎_elim, arith}
use Rattle.std.specs.Fmt.{digits}
use Rattle.std.proofs.lemmas.Bool.{cond-true, cond-false, lt-ltb, le-ltb, cases_lt, eqb-true, false≢true, agree_below_at}
use Rattle.psx_ins.specs.declared.reg.Reg.{Reg}
use Rattle.psx_ins.specs.Forms.{reg}
use Rattle.psx_asm.specs.Numbers.{below, signed_16}
use Rattle.psx_asm.specs.Operands.{register_of}
use Rattle.psx_dis.specs.Printed.{register_text}
use Rattle.psx_dis.proofs.SpelledLines.{signed}

abbrev is_reg : Option Reg → ℕ → Bool
is_reg (Some r) n = r.0 == n
is_reg None n = false

from_is_reg : (o : Option Reg) (n : ℕ) → is_reg o n ≡ true → o ≡ Some (reg n)
from_is_reg (Some r) n is = ap (λ (m : ℕ). Some (reg m)) (eqb-true r.0 n is)
from_is_reg None n is = absurd (false≢true is)

pub register_reads : (r : Reg) → r.0 < 32 → register_of (register_text r) ≡ Some r
unfolding digits
register_reads r small = from_is_reg (register_of (register_text r)) r.0 (agree_below_at (λ n. is_reg (register_of (114 ∷ decimal n)) n) (λ n. true) 32 r.0 refl small)

pub below_reads : (limit n : ℕ) → n < limit → below limit (pos n) ≡ Some n
below_reads limit n small = cond-true (nat_lt n limit) (Some n) None (lt-ltb n limit small)

minus_16 : (m : ℕ) → 0 < m → m ≤ 2 ^ 15 → signed_16 (neg_ℤ (pos m)) ≡ Some (2 ^ 16 - m)
minus_16 zero some small = absurd (omega arith)
minus_16 (suc m) some small = cond-true (nat_lt m (2 ^ 15)) (Some (2 ^ 16 - 1 - m)) None (lt-ltb m (2 ^ 15) (omega arith)) ∙ ap Some (omega arith)

pub signed_reads : (imm : ℕ) → imm < 2 ^ 16 → signed_16 (signed imm) ≡ Some imm
signed_reads imm small = ⊎_elim
    (λ low. ap signed_16 (cond-true (nat_lt imm (2 ^ 15)) (pos imm) (neg_ℤ (pos (2 ^ 16 - imm))) (lt-ltb imm (2 ^ 15) low)) ∙ below_reads (2 ^ 15) imm low)
    (λ high. ap signed_16 (cond-false (nat_lt imm (2 ^ 15)) (pos imm) (neg_ℤ (pos (2 ^ 16 - imm))) (le-ltb imm (2 ^ 15) high)) ∙ minus_16 (2 ^ 16 - imm) (omega arith) (omega arith) ∙ ap Some (omega arith))
    (cases_lt imm (2 ^ 15))
