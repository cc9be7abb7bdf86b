-- Words of 32 bits as whole numbers below 2 ^ 32 (R3000A manual, data formats and the arithmetic instructions).
use Rattle.std.specs.Prelude.{ℕ, zero, suc, ◌+◌, ◌-◌, ◌/◌, ◌%◌, ◌^◌, Bool, true, false, ℤ, pos, negsuc, ◌&&◌, nat_lt, int_le, int_lt, int_div, int_rem, if◌then◌else◌}
use Rattle.std.specs.Int.{w32, cast_signed, cast_unsigned}

-- the number that a word stands for in two's complement
abbrev pub signed : ℕ → ℤ
signed n = cast_signed w32 n

-- 8 and 16 bits with the sign copied
abbrev pub byte_extended : ℕ → ℕ
byte_extended v = if nat_lt v (2 ^ 7) then v else v + (2 ^ 32 - 2 ^ 8)

abbrev pub sign_extended : ℕ → ℕ
sign_extended v = if nat_lt v (2 ^ 15) then v else v + (2 ^ 32 - 2 ^ 16)

-- whether a whole number has a word
abbrev pub has_word : ℤ → Bool
has_word z = int_le (negsuc (2 ^ 31 - 1)) z && int_lt z (pos (2 ^ 31))

-- 1 where it holds, else 0
abbrev pub truth : Bool → ℕ
truth true = 1
truth false = 0

-- shifted right by n bits, with the sign copied
abbrev pub shifted_signed : ℕ → ℕ → ℕ
shifted_signed t n = if nat_lt t (2 ^ 31) then t / 2 ^ n else 2 ^ 32 - 1 - (2 ^ 32 - 1 - t) / 2 ^ n

-- quotient and remainder without sign; by 0 the quotient is FFFFFFFFh and the remainder the dividend
abbrev pub quotient : ℕ → ℕ → ℕ
quotient s zero = 2 ^ 32 - 1
quotient s (suc t) = s / suc t

abbrev pub remainder : ℕ → ℕ → ℕ
remainder s zero = s
remainder s (suc t) = s % suc t

-- with sign, cut towards 0; by 0 the quotient is -1, or 1 for a negative dividend; 80000000h by -1 wraps
abbrev pub quotient_signed : ℕ → ℕ → ℕ
quotient_signed s zero = if nat_lt s (2 ^ 31) then 2 ^ 32 - 1 else 1
quotient_signed s (suc t) = cast_unsigned w32 (int_div (signed s) (signed (suc t)))

abbrev pub remainder_signed : ℕ → ℕ → ℕ
remainder_signed s zero = s
remainder_signed s (suc t) = cast_unsigned w32 (int_rem (signed s) (signed (suc t)))
