use Rattle.std.proofs.Common.{◌≡◌, ℕ, ◌∷◌, ◌++◌, ◌/◌, ◌%◌, ◌^◌, arith, ap, slice_index}
use Rattle.psx_text.specs.Digits.{hex8}
use Rattle.psx_trace.proofs.WordDigits.{high_digits, low_digits}
use Rattle.psx_trace.proofs.parts.word_of.Goals as goal

pub returns : goal.returns
unfolding hex8
returns c w rest small e =
    let at : (k : ℕ) → slice_index c.args.text.now k ≡ slice_index (32 ∷ (hex8 w ++ rest)) k = λ k. ap (λ l. slice_index l k) e in
    let high = c.half_at.ensures.half (w / 2 ^ 28) (w / 2 ^ 24 % 16) (w / 2 ^ 20 % 16) (w / 2 ^ 16 % 16) (omega arith) (omega arith) (omega arith) (omega arith) (at 1) (at 2) (at 3) (at 4) in
    let low = c.half_at-2.ensures.half (w / 2 ^ 12 % 16) (w / 2 ^ 8 % 16) (w / 2 ^ 4 % 16) (w % 16) (omega arith) (omega arith) (omega arith) (omega arith) (at 5) (at 6) (at 7) (at 8) in
    omega (arith, high, low, high_digits w, low_digits w)
