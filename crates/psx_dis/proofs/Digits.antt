-- The numbers of the printed form, read back.
use Rattle.std.proofs.Common.{◌≡◌, ℕ, ◌+◌, ◌*◌, ◌/◌, ◌%◌, ◌<◌, ◌≤◌, ◌^◌, true, List, [], ◌∷◌, length, refl, ◌∙◌, decimal, arith}
use Rattle.std.specs.Char.{digit_value}
use Rattle.std.specs.List.{list_all}
use Rattle.std.specs.Str.Parse.{AllDigits, IsNumeral, digits_value}
use Rattle.std.proofs.lemmas.Bool.{and_from}
use Rattle.std.proofs.lemmas.Bool.Decides.{nat_tests}
use Rattle.std.proofs.lemmas.Fmt.{decimal_is_IsNumeral, length-decimal-le}
use Rattle.psx_lex.specs.Lexeme.{is_name_byte, IsName}
use Rattle.psx_text.specs.Digits.{hex_digit, hex8}
use Rattle.psx_text.proofs.HexDigits.{digit_value_is}

eight_back : (a b c d e f g h : ℕ) → a < 16 → b < 16 → c < 16 → d < 16 → e < 16 → f < 16 → g < 16 → h < 16
    → AllDigits 16 (hex_digit a ∷ hex_digit b ∷ hex_digit c ∷ hex_digit d ∷ hex_digit e ∷ hex_digit f ∷ hex_digit g ∷ hex_digit h ∷ [])
    × (digits_value 16 (hex_digit a ∷ hex_digit b ∷ hex_digit c ∷ hex_digit d ∷ hex_digit e ∷ hex_digit f ∷ hex_digit g ∷ hex_digit h ∷ [])
    ≡ ((((((a * 16 + b) * 16 + c) * 16 + d) * 16 + e) * 16 + f) * 16 + g) * 16 + h)
eight_back a b c d e f g h la lb lc ld le lf lg lh =
    let ea = digit_value_is a la in
    let eb = digit_value_is b lb in
    let ec = digit_value_is c lc in
    let ed = digit_value_is d ld in
    let ee = digit_value_is e le in
    let ef = digit_value_is f lf in
    let eg = digit_value_is g lg in
    let eh = digit_value_is h lh in
    (omega arith, omega arith)

-- a number from its digits to the base 16
joined : (w q7 q6 q5 q4 q3 q2 q1 r6 r5 r4 r3 r2 r1 r0 : ℕ) → q6 ≡ q7 * 16 + r6 → q5 ≡ q6 * 16 + r5 → q4 ≡ q5 * 16 + r4 → q3 ≡ q4 * 16 + r3 → q2 ≡ q3 * 16 + r2 → q1 ≡ q2 * 16 + r1
    → w ≡ q1 * 16 + r0 → ((((((q7 * 16 + r6) * 16 + r5) * 16 + r4) * 16 + r3) * 16 + r2) * 16 + r1) * 16 + r0 ≡ w
joined w q7 q6 q5 q4 q3 q2 q1 r6 r5 r4 r3 r2 r1 r0 e6 e5 e4 e3 e2 e1 e0 = omega arith

pub hex8_back : (w : ℕ) → w < 2 ^ 32 → IsNumeral 16 (hex8 w) × (digits_value 16 (hex8 w) ≡ w)
unfolding hex8
hex8_back w small =
    let back = eight_back (w / 2 ^ 28) (w / 2 ^ 24 % 16) (w / 2 ^ 20 % 16) (w / 2 ^ 16 % 16) (w / 2 ^ 12 % 16) (w / 2 ^ 8 % 16) (w / 2 ^ 4 % 16) (w % 16)
    (omega arith) (omega arith) (omega arith) (omega arith) (omega arith) (omega arith) (omega arith) (omega arith) in (
      (omega arith, back.0),
      back.1 ∙ joined w (w / 2 ^ 28) (w / 2 ^ 24) (w / 2 ^ 20) (w / 2 ^ 16) (w / 2 ^ 12) (w / 2 ^ 8) (w / 2 ^ 4)
          (w / 2 ^ 24 % 16) (w / 2 ^ 20 % 16) (w / 2 ^ 16 % 16) (w / 2 ^ 12 % 16) (w / 2 ^ 8 % 16) (w / 2 ^ 4 % 16) (w % 16)
          (omega arith) (omega arith) (omega arith) (omega arith) (omega arith) (omega arith) (omega arith),
    )

pub decimal_back : (n : ℕ) → n < 2 ^ 32 → IsNumeral 10 (decimal n) × (digits_value 10 (decimal n) ≡ n)
decimal_back n small = decimal_is_IsNumeral n (omega arith)

digit_byte : (c : ℕ) → digit_value c < 10 → is_name_byte c ≡ true
digit_byte c small = grind (arith, nat_tests)

digit_bytes : (ds : List ℕ) → AllDigits 10 ds → list_all is_name_byte ds ≡ true
digit_bytes [] all = refl
digit_bytes (c ∷ cs) all = and_from (is_name_byte c) (list_all is_name_byte cs) (digit_byte c all.0) (digit_bytes cs all.1)

-- r and a number below 32 is a name
pub register_is_name : (n : ℕ) → n < 32 → IsName (114 ∷ decimal n) × (length (114 ∷ decimal n) ≤ 63)
register_is_name n small = ((refl, digit_bytes (decimal n) (decimal_back n (omega arith)).0.1), omega (arith, length-decimal-le 2 n (omega arith) (omega arith) (omega arith)))
