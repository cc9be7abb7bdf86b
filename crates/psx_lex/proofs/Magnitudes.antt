-- The number without a sign that a text begins with.
use Rattle.std.proofs.Common.{◌≡◌, ◌≢◌, ℕ, zero, suc, ◌<◌, ◌≤◌, ◌^◌, Bool, true, false, ◌&&◌, ◌==◌, List, [], ◌∷◌, length, take, drop, slice_index, refl, sym, ap, subst, ◌∙◌, inl, inr, ⊎_elim, length-take, lit<, arith}
use Rattle.std.specs.Char.{digit_value, is_ascii_digit, is_ascii_hexdigit}
use Rattle.std.specs.List.{prefix_len, list_all}
use Rattle.std.specs.Str.Parse.{AllDigits, IsNumeral, digits_value}
use Rattle.std.proofs.lemmas.Bool.{false≢true, and_parts, and_from, both_ways, eqb-true, eq-eqb}
use Rattle.std.proofs.lemmas.Bool.Decides.{nat_tests}
use Rattle.std.proofs.lemmas.List.Sums.{prefix_len-le-length}
use Rattle.std.specs.Str.{IsAscii}
use Rattle.std.proofs.lemmas.List.{get_or-take}
use Rattle.psx_lex.specs.Lexeme.{IsMagnitude, IsDecimal, IsHexadecimal, IsQuoted}
use Rattle.psx_lex.specs.Magnitude.{IsLongestMagnitude, HasNoMagnitude}
use Rattle.psx_lex.proofs.Starts.{digit_of}
use Rattle.psx_lex.proofs.OneKind.{magnitude_same}
use Rattle.psx_lex.proofs.Prefixes.{prefix_more, prefix_most, prefix_all}

digit_less : (c : ℕ) → is_ascii_digit c ≡ true → digit_value c < 10
digit_less c pass = grind (arith, nat_tests)

hex_less : (c : ℕ) → is_ascii_hexdigit c ≡ true → digit_value c < 16
hex_less c pass = grind (arith, nat_tests)

hex_of : (c : ℕ) → digit_value c < 16 → is_ascii_hexdigit c ≡ true
hex_of c small = grind (arith, nat_tests)

all_test : (radix : ℕ) (test : ℕ → Bool) → ((c : ℕ) → digit_value c < radix → test c ≡ true) → (ds : List ℕ) → AllDigits radix ds → list_all test ds ≡ true
all_test radix test says [] all = refl
all_test radix test says (c ∷ cs) all = and_from (test c) (list_all test cs) (says c all.0) (all_test radix test says cs all.1)

all_digits : (radix : ℕ) (test : ℕ → Bool) → ((c : ℕ) → test c ≡ true → digit_value c < radix) → (ds : List ℕ) → list_all test ds ≡ true → AllDigits radix ds
all_digits radix test says [] all = tt
all_digits radix test says (c ∷ cs) all = let parts = and_parts (test c) (list_all test cs) all in (says c parts.0, all_digits radix test says cs parts.1)

some_front : (p : ℕ → Bool) (xs : List ℕ) → 0 < prefix_len p xs → 0 < length (take (prefix_len p xs) xs)
some_front p xs some = omega (arith, length-take (prefix_len p xs) xs, prefix_len-le-length p xs)

pub decimal_front : (text : List ℕ) → 0 < prefix_len is_ascii_digit text → IsNumeral 10 (take (prefix_len is_ascii_digit text) text)
decimal_front text some = (some_front is_ascii_digit text some, all_digits 10 is_ascii_digit digit_less (take (prefix_len is_ascii_digit text) text) (prefix_all is_ascii_digit text))

pub hex_front : (text : List ℕ) → 0 < prefix_len is_ascii_hexdigit text → IsNumeral 16 (take (prefix_len is_ascii_hexdigit text) text)
hex_front text some = (some_front is_ascii_hexdigit text some, all_digits 16 is_ascii_hexdigit hex_less (take (prefix_len is_ascii_hexdigit text) text) (prefix_all is_ascii_hexdigit text))

-- a text begins with 0x and a hexadecimal digit
abbrev pub is_hex : List ℕ → Bool
is_hex text = slice_index text 0 == 48 && (slice_index text 1 == 120 && is_ascii_hexdigit (slice_index text 2))

pub hex_some : (text : List ℕ) → is_ascii_hexdigit (slice_index text 2) ≡ true → 0 < prefix_len is_ascii_hexdigit (drop 2 text)
hex_some [] pass = absurd (false≢true pass)
hex_some (a ∷ []) pass = absurd (false≢true pass)
hex_some (a ∷ b ∷ []) pass = absurd (false≢true pass)
hex_some (a ∷ b ∷ c ∷ cs) pass = omega (arith, prefix_more is_ascii_hexdigit c cs pass)

byte_small : (c : ℕ) → digit_value c < 16 → c < 128
byte_small c small = grind (arith, nat_tests)

pub digits_ascii : (radix : ℕ) (ds : List ℕ) → radix ≤ 16 → AllDigits radix ds → IsAscii ds
digits_ascii radix [] most all i = lit< tt
digits_ascii radix (c ∷ cs) most all zero = byte_small c (omega arith)
digits_ascii radix (c ∷ cs) most all (suc i) = digits_ascii radix cs most all.1 i

decimal_most : (text : List ℕ) (n value : ℕ) → n ≤ length text → IsDecimal (take n text) value → n ≤ prefix_len is_ascii_digit text
decimal_most text n value within form = prefix_most is_ascii_digit n text within (all_test 10 is_ascii_digit digit_of (take n text) form.0.1)

hex_most : (text : List ℕ) (n value : ℕ) → n ≤ length text → IsHexadecimal (take n text) value → n ≤ suc (suc (prefix_len is_ascii_hexdigit (drop 2 text)))
hex_most text zero value within form = omega arith
hex_most text (suc zero) value within form = omega arith
hex_most [] (suc (suc n)) value within form = absurd (omega arith)
hex_most (a ∷ []) (suc (suc n)) value within form = absurd (omega arith)
hex_most (a ∷ b ∷ cs) (suc (suc n)) value within form =
    let same : form.0 ≡ take n cs = cc (form.1) in
    let all = subst (AllDigits 16) same form.2.1 in
    omega (arith, prefix_most is_ascii_hexdigit n cs (omega arith) (all_test 16 is_ascii_hexdigit hex_of (take n cs) all))

hex_digit_first : (cs : List ℕ) (n : ℕ) → IsNumeral 16 (take n cs) → is_ascii_hexdigit (slice_index cs 0) ≡ true
hex_digit_first cs zero form = absurd (omega arith)
hex_digit_first [] (suc n) form = absurd (omega arith)
hex_digit_first (c ∷ cs) (suc n) form = hex_of c form.1.0

hex_is : (text : List ℕ) (n value : ℕ) → IsHexadecimal (take n text) value → is_hex text ≡ true
hex_is text zero value form = cc (form.1)
hex_is [] (suc n) value form = cc (form.1)
hex_is (a ∷ cs) (suc zero) value form = cc (form.1)
hex_is (a ∷ []) (suc (suc n)) value form = cc (form.1)
hex_is (a ∷ b ∷ cs) (suc (suc n)) value form =
    let first : a ≡ 48 = cc (form.1) in
    let second : b ≡ 120 = cc (form.1) in
    let same : form.0 ≡ take n cs = cc (form.1) in
    and_from (a == 48) (b == 120 && is_ascii_hexdigit (slice_index cs 0)) (eq-eqb a 48 first)
    (and_from (b == 120) (is_ascii_hexdigit (slice_index cs 0)) (eq-eqb b 120 second) (hex_digit_first cs n (subst (IsNumeral 16) same form.2)))

-- a quoted byte that a text begins with
pub record IsQuotedAt (text : List ℕ) (n value : ℕ) : Type 0 where
  pub len : n ≡ 3
  pub first : slice_index text 0 ≡ 39
  pub second : slice_index text 1 ≡ value
  pub third : slice_index text 2 ≡ 39
  pub low : 32 ≤ value
  pub high : value ≤ 126
  pub quote : value ≢ 39
  pub slash : value ≢ 92

quoted_at : (text : List ℕ) (n value : ℕ) → n ≤ length text → IsQuoted (take n text) value → IsQuotedAt text n value
quoted_at text n value within form =
    let len : n ≡ 3 = omega (arith, ap length form.0, length-take n text) in
    let at = λ (i : ℕ) (below : i < n). sym (get_or-take n text i 0 below) ∙ ap (λ (w : List ℕ). slice_index w i) form.0 in
    record { len = len; first = at 0 (omega arith); second = at 1 (omega arith); third = at 2 (omega arith); low = form.1; high = form.2; quote = form.3; slash = form.4 }

no_digit_quote : (text : List ℕ) → slice_index text 0 ≡ 39 → prefix_len is_ascii_digit text ≡ 0
no_digit_quote [] quote = refl
no_digit_quote (c ∷ cs) quote = ap (λ (c : ℕ). prefix_len is_ascii_digit (c ∷ cs)) quote

one_digit : (text : List ℕ) → slice_index text 0 ≡ 48 → slice_index text 1 ≡ 120 → prefix_len is_ascii_digit text ≤ 1
one_digit [] a b = omega arith
one_digit (x ∷ []) a b = omega (arith, prefix_len-le-length is_ascii_digit (x ∷ []))
one_digit (x ∷ y ∷ cs) a b = let short : prefix_len is_ascii_digit (x ∷ y ∷ cs) ≡ 1 = λ i. prefix_len is_ascii_digit (a i ∷ b i ∷ cs) in omega arith

hex_form : (text : List ℕ) → slice_index text 0 ≡ 48 → slice_index text 1 ≡ 120 → is_ascii_hexdigit (slice_index text 2) ≡ true
    → (suc (suc (prefix_len is_ascii_hexdigit (drop 2 text))) ≤ length text)
    × IsMagnitude (take (suc (suc (prefix_len is_ascii_hexdigit (drop 2 text)))) text) (digits_value 16 (take (prefix_len is_ascii_hexdigit (drop 2 text)) (drop 2 text)))
hex_form [] a b c = absurd (omega arith)
hex_form (x ∷ []) a b c = absurd (omega arith)
hex_form (x ∷ y ∷ cs) a b c =
    let digits = take (prefix_len is_ascii_hexdigit cs) cs in
    (omega (arith, prefix_len-le-length is_ascii_hexdigit cs), inr (inl (digits, (λ i. a i ∷ b i ∷ digits), hex_front cs (hex_some (x ∷ y ∷ cs) c), refl)))

pub hex_longest : (text : List ℕ) → slice_index text 0 ≡ 48 → slice_index text 1 ≡ 120 → is_ascii_hexdigit (slice_index text 2) ≡ true
    → IsLongestMagnitude text (suc (suc (prefix_len is_ascii_hexdigit (drop 2 text)))) (digits_value 16 (take (prefix_len is_ascii_hexdigit (drop 2 text)) (drop 2 text)))
hex_longest text a b c =
    let here = hex_form text a b c in
    record {
      within = here.0;
      form = here.1;
      longest = λ more other within.
          ⊎_elim (λ decimal. omega (arith, decimal_most text more other within decimal, one_digit text a b))
          (⊎_elim (λ hex. hex_most text more other within hex) (λ quoted. absurd (omega (arith, (quoted_at text more other within quoted).first))));
    }

pub decimal_longest : (text : List ℕ) → is_hex text ≡ false → 0 < prefix_len is_ascii_digit text
    → IsLongestMagnitude text (prefix_len is_ascii_digit text) (digits_value 10 (take (prefix_len is_ascii_digit text) text))
decimal_longest text plain some = record {
  within = prefix_len-le-length is_ascii_digit text;
  form = inl (decimal_front text some, refl);
  longest = λ more other within.
      ⊎_elim (λ decimal. decimal_most text more other within decimal)
      (⊎_elim (λ hex. absurd (both_ways (is_hex text) plain (hex_is text more other hex)))
      (λ quoted. absurd (omega (arith, no_digit_quote text (quoted_at text more other within quoted).first))));
}

pub no_magnitude : (text : List ℕ) → slice_index text 0 ≢ 39 → is_hex text ≡ false → prefix_len is_ascii_digit text ≡ 0 → HasNoMagnitude text
no_magnitude text quote plain none len value small longest =
    ⊎_elim (λ decimal. absurd (omega (arith, decimal_most text len value longest.within decimal, decimal.0.0, length-take len text)))
    (⊎_elim (λ hex. both_ways (is_hex text) plain (hex_is text len value hex)) (λ quoted. quote (quoted_at text len value longest.within quoted).first)) longest.form

-- where the longest number without a sign has more than 64 bits, there is none
pub too_large : (text : List ℕ) (m v : ℕ) → IsLongestMagnitude text m v → (v < 2 ^ 64 → ⊥) → HasNoMagnitude text
too_large text m v longest large n w small other =
    let len : m ≡ n = omega (arith, longest.longest n w other.within other.form, other.longest m v longest.within longest.form) in
    let same : v ≡ w = magnitude_same (take n text) v w (subst (λ (i : ℕ). IsMagnitude (take i text) v) len longest.form) other.form in
    large (omega arith)

pub quoted_only : (text : List ℕ) (n value : ℕ) → slice_index text 0 ≡ 39 → n ≤ length text → IsMagnitude (take n text) value → IsQuotedAt text n value
quoted_only text n value quote within =
    ⊎_elim (λ decimal. absurd (omega (arith, decimal_most text n value within decimal, no_digit_quote text quote, decimal.0.0, length-take n text)))
    (⊎_elim (λ hex. let parts = and_parts (slice_index text 0 == 48) (slice_index text 1 == 120 && is_ascii_hexdigit (slice_index text 2)) (hex_is text n value hex) in
    absurd (omega (arith, eqb-true (slice_index text 0) 48 parts.0)))
    (λ quoted. quoted_at text n value within quoted))

quoted_form : (text : List ℕ) → slice_index text 0 ≡ 39 → slice_index text 2 ≡ 39 → (3 ≤ length text) × (take 3 text ≡ 39 ∷ slice_index text 1 ∷ 39 ∷ [])
quoted_form [] a c = absurd (omega arith)
quoted_form (x ∷ []) a c = absurd (omega arith)
quoted_form (x ∷ y ∷ []) a c = absurd (omega arith)
quoted_form (x ∷ y ∷ z ∷ cs) a c = (omega arith, λ i. a i ∷ y ∷ c i ∷ [])

pub quoted_longest : (text : List ℕ) → slice_index text 0 ≡ 39 → slice_index text 2 ≡ 39 → 32 ≤ slice_index text 1 → slice_index text 1 ≤ 126
    → slice_index text 1 ≢ 39 → slice_index text 1 ≢ 92 → IsLongestMagnitude text 3 (slice_index text 1)
quoted_longest text a c low high quote slash =
    let here = quoted_form text a c in
    record {
      within = here.0;
      form = inr (inr (here.1, low, high, quote, slash));
      longest = λ more other within form. let found = quoted_only text more other a within form in omega (arith, found.len);
    }

pub not_quoted : (text : List ℕ) → slice_index text 0 ≡ 39 → ((value : ℕ) → slice_index text 1 ≡ value → slice_index text 2 ≡ 39 → 32 ≤ value → value ≤ 126 → value ≢ 39 → value ≢ 92 → ⊥)
    → HasNoMagnitude text
not_quoted text quote none n value small longest =
    let found = quoted_only text n value quote longest.within longest.form in
    none value found.second found.third found.low found.high found.quote found.slash
