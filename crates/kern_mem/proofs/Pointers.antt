-- How a call with two pointers begins: where one is 0 it is answered at once.
use Rattle.std.proofs.Common.{◌≡◌, ℕ, ap, ◌∙◌, eq-eqb, ne_eqb}
use Rattle.std.specs.Prelude.{nat_eq, ◌||◌, if◌then◌else◌}
use Rattle.abs_kernel.specs.Stay.{Stay}
use Rattle.kern_stay.proofs.Cursor.{null, not_null}

pub null_first : (p q : ℕ) (x y : Stay) → p ≡ 0 → (if nat_eq p 0 || nat_eq q 0 then x else y) ≡ x
null_first p q x y e = ap (λ b. if b || nat_eq q 0 then x else y) (eq-eqb p 0 e)

pub null_other : (p q : ℕ) (x y : Stay) → (p ≡ 0 → ⊥) → q ≡ 0 → (if nat_eq p 0 || nat_eq q 0 then x else y) ≡ x
null_other p q x y ne e = ap (λ b. if b || nat_eq q 0 then x else y) (ne_eqb p 0 ne) ∙ null q x y e

pub not_null_both : (p q : ℕ) (x y : Stay) → (p ≡ 0 → ⊥) → (q ≡ 0 → ⊥) → (if nat_eq p 0 || nat_eq q 0 then x else y) ≡ y
not_null_both p q x y np nq = ap (λ b. if b || nat_eq q 0 then x else y) (ne_eqb p 0 np) ∙ not_null q x y nq
