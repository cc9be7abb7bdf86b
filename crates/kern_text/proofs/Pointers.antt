-- How a call with two pointers begins: where one is 0, 0 is the answer.
use Rattle.std.proofs.Common.{◌≡◌, ℕ, ap, ◌∙◌, ⊎_elim, eq-eqb, ne_eqb}
use Rattle.std.specs.Prelude.{nat_eq, ◌||◌, if◌then◌else◌}
use Rattle.std.proofs.lemmas.Bool.{cases_eq}
use Rattle.abs_kernel.specs.Stay.{Stay}
use Rattle.kern_stay.proofs.Cursor.{null, not_null}

pub null_first : (p q : ℕ) (x y : Stay) → p ≡ 0 → (if nat_eq p 0 || nat_eq q 0 then x else y) ≡ x
null_first p q x y e = ap (λ b. if b || nat_eq q 0 then x else y) (eq-eqb p 0 e)

behind_first : (p q : ℕ) (x y : Stay) → (p ≡ 0 → ⊥) → (if nat_eq p 0 || nat_eq q 0 then x else y) ≡ (if nat_eq q 0 then x else y)
behind_first p q x y ne = ap (λ b. if b || nat_eq q 0 then x else y) (ne_eqb p 0 ne)

pub null_other : (p q : ℕ) (x y : Stay) → q ≡ 0 → (if nat_eq p 0 || nat_eq q 0 then x else y) ≡ x
null_other p q x y e = ⊎_elim (λ z. null_first p q x y z) (λ ne. behind_first p q x y ne ∙ null q x y e) (cases_eq p 0)

pub no_null : (p q : ℕ) (x y : Stay) → (p ≡ 0 → ⊥) → (q ≡ 0 → ⊥) → (if nat_eq p 0 || nat_eq q 0 then x else y) ≡ y
no_null p q x y np nq = behind_first p q x y np ∙ not_null q x y nq
