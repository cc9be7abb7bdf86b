-- A word made of bits.
use Rattle.std.proofs.Common.{◌≡◌, ℕ, zero, suc, ◌+◌, ◌-◌, ◌*◌, ◌/◌, ◌%◌, ◌^◌, ◌≤◌, ◌<◌, Bool, true, false, inl, inr, refl, sym, ap, ap₂, ◌∙◌, min, max, arith, pow-suc}
use Rattle.std.specs.Prelude.{◌&&◌, ◌||◌, nat_eq, bit_and, bit_or, if◌then◌else◌}
use Rattle.std.specs.Int.{bit_at}
use native.Mathlib.Nat.{pow-le-pow_right}
use Rattle.std.proofs.lemmas.Bool.{cases_lt}
use Rattle.std.proofs.lemmas.Bool.Decides.{eqb_tells}
use Rattle.std.proofs.lemmas.Nat.Bits.{bit_at_and, bit_at_or, bit_at-pow_same, bit_at-pow_other, bit_at-lt, bit_at_above, bit_at_cat_low, bit_at_cat_high, same_from_bits}
use Rattle.psx_ports.specs.Counter.{bit}
use Rattle.psx_ports.specs.History.{word_of}

-- a bit as a number
abbrev digit : Bool → ℕ
digit b = if b then 1 else 0

word-suc : (p : ℕ → Bool) (n : ℕ) → word_of p (suc n) ≡ digit (p n) * 2 ^ n + word_of p n
word-suc p n = go (p n) where
  go : (b : Bool) → word_of p n + (if b then 2 ^ n else 0) ≡ digit b * 2 ^ n + word_of p n
  go true = omega arith
  go false = omega arith

pub word-small : (p : ℕ → Bool) (n : ℕ) → word_of p n < 2 ^ n
word-small p zero = omega arith
word-small p (suc n) = go (p n) (word-small p n) (pow-suc 2 n) where
  go : (b : Bool) → word_of p n < 2 ^ n → 2 ^ suc n ≡ 2 ^ n * 2 → word_of p n + (if b then 2 ^ n else 0) < 2 ^ suc n
  go true h e = omega arith
  go false h e = omega arith

digit-low : (b : Bool) → digit b / 2 ^ 0 % 2 ≡ digit b
digit-low true = refl
digit-low false = refl

pub bit-word : (p : ℕ → Bool) (n k : ℕ) → k < n → bit_at (word_of p n) k ≡ digit (p k)
bit-word p zero k h = absurd (omega arith)
bit-word p (suc n) k h = ap (λ w. bit_at w k) (word-suc p n) ∙ elim (cases_lt k n) [
  | inl below ↦ bit_at_cat_low (digit (p n)) n (word_of p n) k below ∙ bit-word p n k below
  | inr at ↦
      let e : k ≡ n = omega arith in
      bit_at_cat_high (digit (p n)) n (word_of p n) k (word-small p n) at ∙ ap (λ i. bit_at (digit (p n)) i) (let f : k - n ≡ 0 = omega arith in f) ∙ digit-low (p n) ∙ ap (λ i. digit (p i)) (sym e)
]

max-digits : (a b : Bool) → max (digit a) (digit b) ≡ digit (a || b)
max-digits true true = refl
max-digits true false = refl
max-digits false true = refl
max-digits false false = refl

-- two words with the same bits
same : (n w : ℕ) (q : ℕ → Bool) → ((k : ℕ) → k < n → bit_at w k ≡ digit (q k)) → ((k : ℕ) → n ≤ k → bit_at w k ≡ 0) → w ≡ word_of q n
same n w q low high = same_from_bits w (word_of q n) (λ k. elim (cases_lt k n) [
  | inl below ↦ low k below ∙ sym (bit-word q n k below)
  | inr above ↦ high k above ∙ sym (bit_at_above (word_of q n) n k (word-small q n) above)
])

pub word-or : (p q : ℕ → Bool) (n : ℕ) → bit_or (word_of p n) (word_of q n) ≡ word_of (λ k. p k || q k) n
word-or p q n = same n (bit_or (word_of p n) (word_of q n)) (λ k. p k || q k)
    (λ k h. bit_at_or (word_of p n) (word_of q n) k ∙ ap₂ max (bit-word p n k h) (bit-word q n k h) ∙ max-digits (p k) (q k))
    (λ k h. bit_at_or (word_of p n) (word_of q n) k ∙ ap₂ max (bit_at_above (word_of p n) n k (word-small p n) h) (bit_at_above (word_of q n) n k (word-small q n) h))

min-digits : (a : Bool) (d : ℕ) → d < 2 → min (digit a) d ≡ digit (a && nat_eq d 1)
min-digits true zero h = refl
min-digits true (suc zero) h = refl
min-digits true (suc (suc d)) h = absurd (omega arith)
min-digits false d h = omega arith

pub word-and : (p : ℕ → Bool) (v n : ℕ) → bit_and (word_of p n) v ≡ word_of (λ k. p k && bit v k) n
word-and p v n = same n (bit_and (word_of p n) v) (λ k. p k && bit v k)
    (λ k h. bit_at_and (word_of p n) v k ∙ ap (λ d. min d (bit_at v k)) (bit-word p n k h) ∙ min-digits (p k) (bit_at v k) (bit_at-lt v k))
    (λ k h. bit_at_and (word_of p n) v k ∙ ap (λ d. min d (bit_at v k)) (bit_at_above (word_of p n) n k (word-small p n) h) ∙ (let e : min 0 (bit_at v k) ≡ 0 = omega arith in e))

pow-digit : (line k : ℕ) → bit_at (2 ^ line) k ≡ digit (nat_eq line k)
pow-digit line k = elim (eqb_tells line k) [
  | inl e ↦ ap (bit_at (2 ^ line)) (sym e.1) ∙ bit_at-pow_same line ∙ ap digit (sym e.0)
  | inr e ↦ bit_at-pow_other line k (λ s. e.1 (sym s)) ∙ ap digit (sym e.0)
]

pub word-raise : (p : ℕ → Bool) (line n : ℕ) → line < n → bit_or (word_of p n) (2 ^ line) ≡ word_of (λ k. p k || nat_eq line k) n
word-raise p line n within = same n (bit_or (word_of p n) (2 ^ line)) (λ k. p k || nat_eq line k)
    (λ k h. bit_at_or (word_of p n) (2 ^ line) k ∙ ap₂ max (bit-word p n k h) (pow-digit line k) ∙ max-digits (p k) (nat_eq line k))
    (λ k h. bit_at_or (word_of p n) (2 ^ line) k ∙ ap₂ max (bit_at_above (word_of p n) n k (word-small p n) h) (bit_at-pow_other line k (λ e. absurd (omega arith))))

pub word-same : (p q : ℕ → Bool) (n : ℕ) → ((k : ℕ) → k < n → p k ≡ q k) → word_of p n ≡ word_of q n
word-same p q zero h = refl
word-same p q (suc n) h = λ i. word-same p q n (λ k l. h k (omega arith)) i + (if h n (omega arith) i then 2 ^ n else 0)

-- 1 << line
pub shifted : (line : ℕ) → line ≤ 10 → 1 * 2 ^ line % 2 ^ 32 ≡ 2 ^ line
shifted line h = let low : 2 ^ line ≤ 2 ^ 10 = pow-le-pow_right (omega arith) h in omega arith
