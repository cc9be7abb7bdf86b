-- The decimal number that stands at the beginning of a text.
use Rattle.std.proofs.Common.{◌≡◌, ℕ, ◌+◌, ◌<◌, ◌≤◌, ◌^◌, List, [], ◌∷◌, ◌++◌, length, drop, take, slice_index, decimal, true, false, cond, refl, ap, ◌∙◌, arith}
use Rattle.std.specs.Char.{is_ascii_digit}
use Rattle.std.specs.List.{prefix_len}
use Rattle.std.specs.Str.Parse.{AllDigits}
use Rattle.std.proofs.lemmas.Bool.Decides.{nat_tests}
use Rattle.std.proofs.lemmas.Fmt.{decimal_is_IsNumeral}
use Rattle.std.proofs.lemmas.Str.Parse.{digit_from_value}
use Rattle.std.proofs.Math.Seq.{take-append_seam, drop-append_seam}

is_digit : (c : ℕ) → 48 ≤ c → c ≤ 57 → is_ascii_digit c ≡ true
is_digit c low high = grind (arith, nat_tests)

not_digit : (c : ℕ) → c < 48 → is_ascii_digit c ≡ false
not_digit c low = grind (arith, nat_tests)

-- how many digits stand before a byte below '0'
digits_then : (ds rest : List ℕ) → AllDigits 10 ds → slice_index rest 0 < 48 → prefix_len is_ascii_digit (ds ++ rest) ≡ length ds
digits_then [] [] d low = refl
digits_then [] (x ∷ rest) d low = ap (λ b. cond b (1 + prefix_len is_ascii_digit rest) 0) (not_digit x low)
digits_then (x ∷ ds) rest d low =
    let range = digit_from_value x d.0 in
    let yes : is_ascii_digit x ≡ true = is_digit x (omega arith) (omega arith) in
    let more : 1 + prefix_len is_ascii_digit (ds ++ rest) ≡ length (x ∷ ds) = omega (arith, digits_then ds rest d.1 low) in
    ap (λ b. cond b (1 + prefix_len is_ascii_digit (ds ++ rest)) 0) yes ∙ more

-- the digits of a number that a text begins with, and what stands behind them
pub number_then : (text : List ℕ) (n : ℕ) (after : List ℕ) → n < 2 ^ 64 → slice_index after 0 < 48 → text ≡ decimal n ++ after
    → (take (prefix_len is_ascii_digit text) text ≡ decimal n) × (drop (prefix_len is_ascii_digit text) text ≡ after)
number_then text n after small low e =
    let len : prefix_len is_ascii_digit text ≡ length (decimal n) = ap (prefix_len is_ascii_digit) e ∙ digits_then (decimal n) after (decimal_is_IsNumeral n small).0.1 low in
    ((λ i. take (len i) (e i)) ∙ take-append_seam (decimal n) after, (λ i. drop (len i) (e i)) ∙ drop-append_seam (decimal n) after)
