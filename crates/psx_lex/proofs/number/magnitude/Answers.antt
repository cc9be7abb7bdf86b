use Rattle.std.proofs.Common.{◌≡◌, ◌<◌, ◌^◌, ℕ, List, take, false, sym, ap, subst, ◌∙◌, arith}
use Rattle.std.specs.Char.{is_ascii_digit}
use Rattle.std.specs.List.{prefix_len}
use Rattle.std.specs.Str.Parse.{IsNumeral, digits_value}
use Rattle.psx_lex.specs.Magnitude.{IsLongestMagnitude}
use Rattle.psx_lex.proofs.Magnitudes.{is_hex, decimal_front, decimal_longest, no_magnitude, too_large}
use Rattle.psx_lex.proofs.number.magnitude.Goals as goal

-- the digits that were read
front_is : (text front : List ℕ) (len : ℕ) → len ≡ prefix_len is_ascii_digit text → front ≡ take len text → front ≡ take (prefix_len is_ascii_digit text) text
front_is text front len count is = is ∙ ap (λ (n : ℕ). take n text) count

pub returns-then-len-eq0-clause-none : goal.returns-then-len-eq0-clause-none
returns-then-len-eq0-clause-none c =
    let first = c.byte_at.ensures in
    let plain : is_hex c.args.text.now ≡ false = sym c.is_hexadecimal.ensures ∙ c.if-is_hexadecimal.false in
    no_magnitude c.args.text.now (λ e. c.if-byte_at-eq39.false (first ∙ e)) plain (sym c.digits_len-len.ensures ∙ c.if-len-eq0.true)

pub value_of-requires-clause-digits : goal.value_of-requires-clause-digits
value_of-requires-clause-digits c =
    let text = c.args.text.now in
    let is = front_is text c.front.result.now c.digits_len-len.result c.digits_len-len.ensures c.front.ensures in
    let some : 0 < prefix_len is_ascii_digit text = omega arith in
    subst (IsNumeral 10) (sym is) (decimal_front text some)

pub returns-in_default-clause-none : goal.returns-in_default-clause-none
returns-in_default-clause-none c =
    let text = c.args.text.now in
    let is = front_is text c.front.result.now c.digits_len-len.result c.digits_len-len.ensures c.front.ensures in
    let some : 0 < prefix_len is_ascii_digit text = omega arith in
    let plain : is_hex text ≡ false = sym c.is_hexadecimal.ensures ∙ c.if-is_hexadecimal.false in
    let large = subst (λ (ds : List ℕ). digits_value 10 ds < 2 ^ 64 → ⊥) is c.in_default.ensures in
    too_large text _ _ (decimal_longest text plain some) large

pub returns-clause-found : goal.returns-clause-found
returns-clause-found c =
    let text = c.args.text.now in
    let is = front_is text c.front.result.now c.digits_len-len.result c.digits_len-len.ensures c.front.ensures in
    let some : 0 < prefix_len is_ascii_digit text = omega arith in
    let plain : is_hex text ≡ false = sym c.is_hexadecimal.ensures ∙ c.if-is_hexadecimal.false in
    let value : digits_value 10 (take (prefix_len is_ascii_digit text) text) ≡ c.in-Some.value = ap (digits_value 10) (sym is) ∙ sym c.in-Some.ensures.1 in
    subst (λ (n : ℕ). IsLongestMagnitude text n c.in-Some.value) (sym c.digits_len-len.ensures)
    (subst (IsLongestMagnitude text (prefix_len is_ascii_digit text)) value (decimal_longest text plain some))
