-- Numbers of the language in the ranges of their places.
use Rattle.std.specs.Prelude.{ℕ, ◌-◌, ◌/◌, ◌%◌, ◌^◌, ℤ, pos, negsuc, nat_lt, Option, Some, None, if◌then◌else◌}

-- the low 32 bits
abbrev pub low_word : ℤ → ℕ
low_word (pos n) = n % 2 ^ 32
low_word (negsuc n) = 2 ^ 32 - 1 - n % 2 ^ 32

-- a number that isn't negative and is below a limit
abbrev pub below : ℕ → ℤ → Option ℕ
below limit (pos n) = if nat_lt n limit then Some n else None
below limit (negsuc n) = None

-- the 16 bits of a number with a sign
abbrev pub signed_16 : ℤ → Option ℕ
signed_16 (pos n) = if nat_lt n (2 ^ 15) then Some n else None
signed_16 (negsuc n) = if nat_lt n (2 ^ 15) then Some (2 ^ 16 - 1 - n) else None

-- the bits of a number below a limit, or of a negative one from minus half the limit on
abbrev pub either_sign : ℕ → ℤ → Option ℕ
either_sign limit (pos n) = if nat_lt n limit then Some n else None
either_sign limit (negsuc n) = if nat_lt n (limit / 2) then Some (limit - 1 - n) else None
