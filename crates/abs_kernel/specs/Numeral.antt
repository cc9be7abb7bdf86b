-- Numerals: how digits of a base stand for a number (PSX-SPX, Kernel (BIOS), Number/String/Character conversion).
use Rattle.std.specs.Prelude.{◌≡◌, ℕ, zero, suc, ◌+◌, ◌*◌, ◌/◌, ◌%◌, ◌^◌, ◌<◌, ◌≤◌, nat_lt, List, [], ◌∷◌, length, if◌then◌else◌}

-- The number that digits stand for: the sum of each one times the power of the base for its place. The last one stands for the power 0.
abbrev pub value_of : (base : ℕ) → (digits : List ℕ) → ℕ
value_of base [] = 0
value_of base (d ∷ ds) = d * base ^ length ds + value_of base ds

-- each is below the base
abbrev pub AreDigits : (base : ℕ) → (digits : List ℕ) → Type 0
AreDigits base [] = Unit {0}
AreDigits base (d ∷ ds) = (d < base) × AreDigits base ds

-- digits are the numeral of a number: they stand for it, there is at least one, and no fewer do
pub record IsNumeral (base n : ℕ) (digits : List ℕ) : Type 0 where
  pub below : AreDigits base digits
  pub value : value_of base digits ≡ n
  pub some : 0 < length digits
  pub fewest : (k : ℕ) → 0 < k → n < base ^ k → length digits ≤ k

-- the digits of a number for the k lowest powers of the base
abbrev pub lowest_digits : (k base n : ℕ) → List ℕ
lowest_digits zero base n = []
lowest_digits (suc k) base n = n / base ^ k % base ∷ lowest_digits k base n

-- how many digits a number below the power k + 1 has
abbrev pub digit_count : (k base n : ℕ) → ℕ
digit_count zero base n = 1
digit_count (suc k) base n = if nat_lt n (base ^ suc k) then digit_count k base n else suc (suc k)

-- the numeral of a word
abbrev pub numeral : (base n : ℕ) → List ℕ
numeral base n = lowest_digits (digit_count 31 base n) base n

-- the numeral is one
abbrev pub NumeralIsOne : Type 0
NumeralIsOne = (base n : ℕ) → 2 ≤ base → n < 2 ^ 32 → IsNumeral base n (numeral base n)
