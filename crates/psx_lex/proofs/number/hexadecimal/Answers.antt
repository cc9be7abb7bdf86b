use Rattle.std.proofs.Common.{◌≡◌, ◌+◌, ◌<◌, ◌^◌, ℕ, suc, List, drop, take, sym, ap, subst, ◌∙◌, arith}
use Rattle.std.specs.Char.{is_ascii_hexdigit}
use Rattle.std.specs.List.{prefix_len}
use Rattle.std.specs.Str.Parse.{IsNumeral, digits_value}
use Rattle.psx_lex.specs.Magnitude.{IsLongestMagnitude}
use Rattle.psx_lex.proofs.Magnitudes.{hex_front, hex_some, hex_longest, too_large}
use Rattle.psx_lex.proofs.number.hexadecimal.Goals as goal

-- the digits that were read
front_is : (text digits front : List ℕ) (len : ℕ) → digits ≡ drop 2 text → len ≡ prefix_len is_ascii_hexdigit digits → front ≡ take len digits
    → front ≡ take (prefix_len is_ascii_hexdigit (drop 2 text)) (drop 2 text)
front_is text digits front len rest count is = is ∙ ap (λ (n : ℕ). take n digits) count ∙ ap (λ (ds : List ℕ). take (prefix_len is_ascii_hexdigit ds) ds) rest

pub value_of-requires-clause-digits : goal.value_of-requires-clause-digits
value_of-requires-clause-digits c =
    let text = c.args.text.now in
    let is = front_is text c.skip-digits.result.now c.front.result.now c.hex_len-len.result c.skip-digits.ensures c.hex_len-len.ensures c.front.ensures in
    subst (IsNumeral 16) (sym is) (hex_front (drop 2 text) (hex_some text c.requires.digit))

pub returns-in_default-clause-none : goal.returns-in_default-clause-none
returns-in_default-clause-none c =
    let text = c.args.text.now in
    let is = front_is text c.skip-digits.result.now c.front.result.now c.hex_len-len.result c.skip-digits.ensures c.hex_len-len.ensures c.front.ensures in
    let large = subst (λ (ds : List ℕ). digits_value 16 ds < 2 ^ 64 → ⊥) is c.in_default.ensures in
    too_large text _ _ (hex_longest text c.requires.zero c.requires.mark c.requires.digit) large

pub returns-clause-found : goal.returns-clause-found
returns-clause-found c =
    let text = c.args.text.now in
    let is = front_is text c.skip-digits.result.now c.front.result.now c.hex_len-len.result c.skip-digits.ensures c.hex_len-len.ensures c.front.ensures in
    let len : suc (suc (prefix_len is_ascii_hexdigit (drop 2 text))) ≡ c.hex_len-len.result + 2 = omega (arith, c.hex_len-len.ensures ∙ ap (prefix_len is_ascii_hexdigit) c.skip-digits.ensures) in
    let value : digits_value 16 (take (prefix_len is_ascii_hexdigit (drop 2 text)) (drop 2 text)) ≡ c.in-Some.value = ap (digits_value 16) (sym is) ∙ sym c.in-Some.ensures.1 in
    subst (λ (n : ℕ). IsLongestMagnitude text n c.in-Some.value) len
    (subst (IsLongestMagnitude text (suc (suc (prefix_len is_ascii_hexdigit (drop 2 text))))) value (hex_longest text c.requires.zero c.requires.mark c.requires.digit))
