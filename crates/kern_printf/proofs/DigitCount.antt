-- The digits of a number, as the listings count and write them.
use Rattle.std.proofs.Common.{◌≡◌, Bool, true, false, ℕ, zero, suc, ◌+◌, ◌*◌, ◌/◌, ◌%◌, ◌^◌, ◌<◌, ◌≤◌, ◌⊎◌, inl, inr, [], length, refl, sym, ap, ◌∙◌, arith, ⊎_elim, eq-eqb, ne_eqb}
use Rattle.std.specs.Prelude.{nat_eq, if◌then◌else◌}
use Rattle.std.proofs.lemmas.Bool.{cases_lt}
use Rattle.std.proofs.lemmas.Nat.{mod_below}
use Rattle.std.proofs.Math.Nat.{one-le-pow, pow-succ', pow-le-pow_right, mul-div_left, div-div-eq-div-mul, div-mul-le_self, mul-le-mul_right, lt-div-mul-add}
use Rattle.psx_cpu.specs.Words.{quotient, remainder}
use Rattle.abs_kernel.specs.Numeral.{lowest_digits, digit_count, numeral}
use Rattle.abs_kernel.specs.Conversion.{significant}
use Rattle.kern_printf.specs.Texts.{IsBase}
use Rattle.abs_kernel.proofs.Numerals.{lowest_length, lowest_value, numeral_is_one}

-- ---- bases

pub base_some : (base : ℕ) → IsBase base → 0 < base
base_some base h = ⊎_elim (λ e. omega (arith, e)) (λ g. ⊎_elim (λ e. omega (arith, e)) (λ e. omega (arith, e)) g) h

pub base_few : (base : ℕ) → IsBase base → base ≤ 16
base_few base h = ⊎_elim (λ e. omega (arith, e)) (λ g. ⊎_elim (λ e. omega (arith, e)) (λ e. omega (arith, e)) g) h

pub base_low : (base : ℕ) → IsBase base → 2 ≤ base
base_low base h = ⊎_elim (λ e. omega (arith, e)) (λ g. ⊎_elim (λ e. omega (arith, e)) (λ e. omega (arith, e)) g) h

-- division by a number that isn't 0
pub quotient_is : (x y : ℕ) → 0 < y → quotient x y ≡ x / y
quotient_is x zero h = absurd (omega arith)
quotient_is x (suc y) h = refl

pub remainder_is : (x y : ℕ) → 0 < y → remainder x y ≡ x % y
remainder_is x zero h = absurd (omega arith)
remainder_is x (suc y) h = refl

-- ---- powers

pub power_some : (k base : ℕ) → 0 < base → 0 < base ^ k
power_some k base h = one-le-pow k base h

pub power_above : (k base : ℕ) → 0 < base → base ^ suc k / base ≡ base ^ k
power_above k base h = ap (λ p. p / base) (pow-succ' base k ∙ commuted base (base ^ k)) ∙ mul-div_left (base ^ k) h
  where
    commuted : (a b : ℕ) → a * b ≡ b * a
    commuted a b = grind arith

-- ---- how many digits

-- the numeral of a number has as many digits as the lowest power above it says
pub numeral_has : (j base v : ℕ) → 2 ≤ base → v < 2 ^ 32 → v < base ^ suc j → (j ≡ 0) ⊎ (base ^ j ≤ v) → numeral base v ≡ lowest_digits (suc j) base v
numeral_has j base v two small less low = ap (λ k. lowest_digits k base v) (count low)
  where
    k : ℕ
    k = digit_count 31 base v

    long : length (numeral base v) ≡ k
    long = lowest_length k base v

    most : k ≤ suc j
    most = let h = (numeral_is_one base v two small).fewest (suc j) (omega arith) less in omega (arith, h, long)

    some : 0 < k
    some = let h = (numeral_is_one base v two small).some in omega (arith, h, long)

    below : v < base ^ k
    below =
        let e = (numeral_is_one base v two small).value in
        let l = lowest_value k base v (omega (arith, two)) in
        let m = mod_below v (base ^ k) (power_some k base (omega (arith, two))) in omega (arith, e, l, m)

    count : (j ≡ 0) ⊎ (base ^ j ≤ v) → k ≡ suc j
    count (inl z) = omega (arith, z, most, some)
    count (inr le) = ⊎_elim (λ lt. absurd (let some_base : 0 < base = omega (arith, two) in let fewer : k ≤ j = omega (arith, lt) in let p : base ^ k ≤ base ^ j = pow-le-pow_right some_base fewer in omega (arith, p, below, le))) (λ ge. omega (arith, ge, most)) (cases_lt k (suc j))

-- one digit less for 0, which has none
pub digits_of : (j base v : ℕ) → 2 ≤ base → v < 2 ^ 32 → v < base ^ suc j → (j ≡ 0) ⊎ (base ^ j ≤ v) → (v ≡ 0 → ⊥) → significant base v ≡ lowest_digits (suc j) base v
digits_of j base v two small less low some = ap (λ b. if b then [] else numeral base v) (ne_eqb v 0 some) ∙ numeral_has j base v two small less low

pub digits_of_0 : (base v : ℕ) → v ≡ 0 → significant base v ≡ []
digits_of_0 base v e = ap (λ b. if b then [] else numeral base v) (eq-eqb v 0 e)

-- ---- a number that is divided by the base again and again

-- what was divided so often is divided by that power
pub divided : (j base v q : ℕ) → q ≡ v / base ^ j → 0 < base → q / base ≡ v / base ^ suc j
divided j base v q e h = ap (λ x. x / base) e ∙ div-div-eq-div-mul v (base ^ j) base ∙ ap (λ p. v / p) (commuted (base ^ j) base ∙ sym (pow-succ' base j))
  where
    commuted : (a b : ℕ) → a * b ≡ b * a
    commuted a b = grind arith

-- while the quotient isn't below the base the next power isn't above the number
pub power_within : (j base v q : ℕ) → q ≡ v / base ^ j → base ≤ q → base ^ suc j ≤ v
power_within j base v q e le =
    let p : base ^ suc j ≡ base * base ^ j = pow-succ' base j in
    let m : base * base ^ j ≤ q * base ^ j = mul-le-mul_right (base ^ j) le in
    let d : v / base ^ j * base ^ j ≤ v = div-mul-le_self v (base ^ j) in
    let f : q * base ^ j ≡ v / base ^ j * base ^ j = ap (λ x. x * base ^ j) e in omega (arith, p, m, d, f)

-- and where it is, it is
pub power_beyond : (j base v q : ℕ) → q ≡ v / base ^ j → 0 < base → q < base → v < base ^ suc j
power_beyond j base v q e h lt =
    let p : base ^ suc j ≡ base * base ^ j = pow-succ' base j in
    let a : v < v / base ^ j * base ^ j + base ^ j = lt-div-mul-add (power_some j base h) in
    let m : suc q * base ^ j ≤ base * base ^ j = mul-le-mul_right (base ^ j) lt in
    let f : v / base ^ j * base ^ j + base ^ j ≡ suc q * base ^ j = ap (λ x. x * base ^ j + base ^ j) (sym e) ∙ one_more q (base ^ j) in omega (arith, p, a, m, f)
  where
    one_more : (a b : ℕ) → a * b + b ≡ suc a * b
    one_more a b = grind arith

-- ---- the digits by their count

pub significant_are : (base v : ℕ) → significant base v ≡ lowest_digits (length (significant base v)) base v
significant_are base v = either (nat_eq v 0)
  where
    either : (t : Bool) → (if t then [] else numeral base v) ≡ lowest_digits (length (if t then [] else numeral base v)) base v
    either true = refl
    either false = ap (λ k. lowest_digits k base v) (sym (lowest_length (digit_count 31 base v) base v))
