-- What the digits of a number stand for, and how many there are.
use Rattle.std.proofs.Common.{◌≡◌, ℕ, zero, suc, ◌+◌, ◌*◌, ◌/◌, ◌%◌, ◌^◌, ◌<◌, ◌≤◌, length, Bool, true, false, refl, sym, ap, ◌∙◌, subst, arith, ⊎_elim}
use Rattle.std.specs.Prelude.{nat_lt, if◌then◌else◌}
use Rattle.std.proofs.lemmas.Bool.{cases_lt, lt-ltb}
use Rattle.std.proofs.Math.Arith.{mod-mul}
use Rattle.std.proofs.Math.Nat.{one-le-pow, mod-eq_of_lt, pow-zero, pow-succ', pow-le-pow_left, pow-le-pow_right, mod-one}
use Rattle.std.proofs.lemmas.Nat.{mod_below}
use Rattle.abs_kernel.specs.Numeral.{value_of, AreDigits, lowest_digits, digit_count, NumeralIsOne}

pub lowest_length : (k base n : ℕ) → length (lowest_digits k base n) ≡ k
lowest_length zero base n = refl
lowest_length (suc k) base n = ap suc (lowest_length k base n)

lowest_below : (k base n : ℕ) → 0 < base → AreDigits base (lowest_digits k base n)
lowest_below zero base n h = tt
lowest_below (suc k) base n h = (mod_below (n / base ^ k) base h, lowest_below k base n h)

-- the lowest k digits stand for what is left of a number modulo the k-th power
pub lowest_value : (k base n : ℕ) → 0 < base → value_of base (lowest_digits k base n) ≡ n % base ^ k
lowest_value zero base n h = sym (mod-one n) ∙ ap (λ m. n % m) (sym (pow-zero base))
lowest_value (suc k) base n h =
    ap (λ j. n / base ^ k % base * base ^ j + value_of base (lowest_digits k base n)) (lowest_length k base n)
    ∙ ap (λ v. n / base ^ k % base * base ^ k + v) (lowest_value k base n h)
    ∙ sym (mod-mul n h (one-le-pow k base h)) ∙ ap (λ m. n % m) (sym (pow-succ' base k))

not_below : (a b : ℕ) → b ≤ a → nat_lt a b ≡ false
not_below a b h = grind arith

-- a power that is above a number is no lower than the count of its digits
count_least : (k base n j : ℕ) → 0 < base → 0 < j → n < base ^ j → digit_count k base n ≤ j
count_least zero base n j two some less = some
count_least (suc k) base n j two some less =
    let rest = count_least k base n j two some less in
    ⊎_elim (λ lt. subst (λ b. (if b then digit_count k base n else suc (suc k)) ≤ j) (sym (lt-ltb n (base ^ suc k) lt)) rest)
    (λ le. subst (λ b. (if b then digit_count k base n else suc (suc k)) ≤ j) (sym (not_below n (base ^ suc k) le))
    (⊎_elim (λ lt. lt) (λ high. absurd (let p = pow-le-pow_right two high in omega (arith, p, le, less))) (cases_lt (suc k) j))) (cases_lt n (base ^ suc k))

-- and the power of that count is above it
count_enough : (k base n : ℕ) → n < base ^ suc k → n < base ^ digit_count k base n
count_enough zero base n less = less
count_enough (suc k) base n less =
    ⊎_elim (λ lt. subst (λ b. n < base ^ (if b then digit_count k base n else suc (suc k))) (sym (lt-ltb n (base ^ suc k) lt)) (count_enough k base n lt))
    (λ le. subst (λ b. n < base ^ (if b then digit_count k base n else suc (suc k))) (sym (not_below n (base ^ suc k) le)) less) (cases_lt n (base ^ suc k))

either : (b : Bool) (x y : ℕ) → 0 < x → 0 < y → 0 < (if b then x else y)
either true x y h g = h
either false x y h g = g

count_some : (k base n : ℕ) → 0 < digit_count k base n
count_some zero base n = omega arith
count_some (suc k) base n = either (nat_lt n (base ^ suc k)) _ _ (count_some k base n) (omega arith)

word_small : (base n : ℕ) → 2 ≤ base → n < 2 ^ 32 → n < base ^ 32
word_small base n two small = let p = pow-le-pow_left two 32 in omega (arith, p, small)

pub numeral_is_one : NumeralIsOne
numeral_is_one base n two small =
    let some : 0 < base = omega (arith, two) in
    let k : ℕ = digit_count 31 base n in
    record {
      below = lowest_below k base n some;
      value = lowest_value k base n some ∙ mod-eq_of_lt (count_enough 31 base n (word_small base n two small));
      some = subst (λ j. 0 < j) (sym (lowest_length k base n)) (count_some 31 base n);
      fewest = λ j more less. subst (λ i. i ≤ j) (sym (lowest_length k base n)) (count_least 31 base n j some more less);
    }
