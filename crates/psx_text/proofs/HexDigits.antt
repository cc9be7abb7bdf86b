-- A hexadecimal digit, read back.
use Rattle.std.proofs.Common.{◌≡◌, ℕ, ◌+◌, ◌-◌, ◌%◌, ◌<◌, cond, nat_lt, arith}
use Rattle.std.specs.Char.{digit_value}
use Rattle.std.proofs.lemmas.Bool.Decides.{nat_tests}
use Rattle.psx_text.specs.Digits.{hex_digit}

-- the number below 16 that a byte is read as
abbrev pub digit_read : ℕ → ℕ
digit_read c = cond (nat_lt c 65) (c % 16) ((c - 55) % 16)

pub digit_read_is : (d : ℕ) → d < 16 → digit_read (hex_digit d) ≡ d
digit_read_is d small = grind (arith, nat_tests)

pub decimal_read_is : (d : ℕ) → d < 10 → digit_read (48 + d) ≡ d
decimal_read_is d small = grind (arith, nat_tests)

-- and by std's value of a digit in either case
pub digit_value_is : (d : ℕ) → d < 16 → digit_value (hex_digit d) ≡ d
digit_value_is d small = grind (arith, nat_tests)
