-- A word is its eight digits.
use Rattle.std.proofs.Common.{◌≡◌, ℕ, ◌+◌, ◌*◌, ◌/◌, ◌%◌, ◌^◌, arith}

pub high_digits : (w : ℕ) → w / 2 ^ 16 ≡ w / 2 ^ 28 * 4096 + w / 2 ^ 24 % 16 * 256 + w / 2 ^ 20 % 16 * 16 + w / 2 ^ 16 % 16
high_digits w =
    let a : w / 2 ^ 24 / 16 ≡ w / 2 ^ 28 = omega arith in
    let b : w / 2 ^ 20 / 16 ≡ w / 2 ^ 24 = omega arith in
    let d : w / 2 ^ 16 / 16 ≡ w / 2 ^ 20 = omega arith in
    omega arith

pub low_digits : (w : ℕ) → w ≡ w / 2 ^ 16 * 65536 + (w / 2 ^ 12 % 16 * 4096 + w / 2 ^ 8 % 16 * 256 + w / 2 ^ 4 % 16 * 16 + w % 16)
low_digits w =
    let a : w / 2 ^ 12 / 16 ≡ w / 2 ^ 16 = omega arith in
    let b : w / 2 ^ 8 / 16 ≡ w / 2 ^ 12 = omega arith in
    let d : w / 2 ^ 4 / 16 ≡ w / 2 ^ 8 = omega arith in
    omega arith
