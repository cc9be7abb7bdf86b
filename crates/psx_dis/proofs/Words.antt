-- Words with which a text begins: a name, a directive, a mark and a number, each up to a byte that no name has.
use Rattle.std.proofs.Common.{◌≡◌, ◌≢◌, ℕ, suc, ◌+◌, ◌<◌, ◌≤◌, ◌^◌, pos, neg_ℤ, Bool, true, false, ◌&&◌, ◌==◌, List, [], ◌∷◌, ◌++◌, length, take, slice_index, refl, ap, subst, ◌∙◌, arith}
use Rattle.std.specs.Char.{digit_value, is_ascii_digit, is_ascii_hexdigit}
use Rattle.std.specs.List.{prefix_len, list_all}
use Rattle.std.specs.Str.Parse.{AllDigits, IsNumeral, digits_value}
use Rattle.std.proofs.lemmas.Bool.{cond-false, and_parts, and_from, and_left, and_right, ne_eqb}
use Rattle.std.proofs.lemmas.Bool.Decides.{nat_tests}
use Rattle.std.proofs.lemmas.Int.{ints}
use Rattle.std.proofs.lemmas.List.{take_at}
use Rattle.psx_lex.specs.declared.token.Kind.TheVariants.{Name, Directive, Number, Mark}
use Rattle.psx_lex.specs.Lexeme.{is_name_start, is_name_byte, is_mark, IsName, IsLongest, BeginsToken}
use Rattle.psx_lex.specs.Magnitude.{IsLongestMagnitude, BeginsNoOther}
use Rattle.psx_lex.proofs.Starts.{digit_of}
use Rattle.psx_lex.proofs.Prefixes.{prefix_more}
use Rattle.psx_lex.proofs.Names.{name_longest, directive_longest}
use Rattle.psx_lex.proofs.Marks.{mark_longest}
use Rattle.psx_lex.proofs.Magnitudes.{is_hex, hex_longest, decimal_longest}
use Rattle.psx_lex.proofs.Numbers.{plain_longest, minus_longest, minus_fits}

-- a text begins with no byte of a name
abbrev pub IsParted : List ℕ → Type 0
IsParted rest = is_name_byte (slice_index rest 0) ≡ false

prefix_whole : (p : ℕ → Bool) (xs rest : List ℕ) → list_all p xs ≡ true → p (slice_index rest 0) ≡ false → prefix_len p (xs ++ rest) ≡ length xs
prefix_whole p [] [] all stop = refl
prefix_whole p [] (c ∷ cs) all stop = cond-false (p c) (1 + prefix_len p cs) 0 stop
prefix_whole p (x ∷ xs) rest all stop =
    let parts = and_parts (p x) (list_all p xs) all in
    prefix_more p x (xs ++ rest) parts.0 ∙ ap suc (prefix_whole p xs rest parts.1 stop)

start_is_byte : (c : ℕ) → is_name_start c ≡ true → is_name_byte c ≡ true
start_is_byte c pass = grind (arith, nat_tests)

digit_is_byte : (c : ℕ) → is_name_byte c ≡ false → is_ascii_digit c ≡ false
digit_is_byte c stop = grind (arith, nat_tests)

hex_is_byte : (c : ℕ) → is_name_byte c ≡ false → is_ascii_hexdigit c ≡ false
hex_is_byte c stop = grind (arith, nat_tests)

x_is_byte : (c : ℕ) → is_name_byte c ≡ false → c ≢ 120
x_is_byte c stop = grind (arith, nat_tests)

name_whole : (word rest : List ℕ) → IsName word → IsParted rest → prefix_len is_name_byte (word ++ rest) ≡ length word
name_whole [] rest is parted = absurd is
name_whole (c ∷ cs) rest is parted = prefix_whole is_name_byte (c ∷ cs) rest (and_from (is_name_byte c) (list_all is_name_byte cs) (start_is_byte c is.0) is.1) parted

name_first : (word rest : List ℕ) → IsName word → is_name_start (slice_index (word ++ rest) 0) ≡ true
name_first [] rest is = absurd is
name_first (c ∷ cs) rest is = is.0

pub name_token : (word rest : List ℕ) → IsName word → length word ≤ 63 → IsParted rest → BeginsToken (word ++ rest) Name (length word)
name_token word rest is short parted = record {
  lexeme = subst (IsLongest (word ++ rest) Name) (name_whole word rest is parted) (name_longest (word ++ rest) (name_first word rest is));
  fits = short;
}

pub directive_token : (name rest : List ℕ) → IsName name → length name ≤ 63 → IsParted rest → BeginsToken (46 ∷ (name ++ rest)) Directive (suc (length name))
directive_token name rest is short parted = record {
  lexeme = subst (λ (n : ℕ). IsLongest (46 ∷ (name ++ rest)) Directive (suc n)) (name_whole name rest is parted) (directive_longest (46 ∷ (name ++ rest)) refl (name_first name rest is));
  fits = omega arith;
}

pub mark_token : (c : ℕ) (rest : List ℕ) → is_mark c ≡ true → BeginsToken (c ∷ rest) Mark 1
mark_token c rest mark = record { lexeme = mark_longest (c ∷ rest) mark; fits = tt }

all_test : (radix : ℕ) (test : ℕ → Bool) → ((c : ℕ) → digit_value c < radix → test c ≡ true) → (ds : List ℕ) → AllDigits radix ds → list_all test ds ≡ true
all_test radix test says [] all = refl
all_test radix test says (c ∷ cs) all = and_from (test c) (list_all test cs) (says c all.0) (all_test radix test says cs all.1)

hex_of : (c : ℕ) → digit_value c < 16 → is_ascii_hexdigit c ≡ true
hex_of c small = grind (arith, nat_tests)

no_x : (c : ℕ) → digit_value c < 10 → c ≢ 120
no_x c small = grind (arith, nat_tests)

second_no_x : (ds rest : List ℕ) → IsNumeral 10 ds → IsParted rest → slice_index (ds ++ rest) 1 ≢ 120
second_no_x [] rest is parted = absurd (omega arith)
second_no_x (d ∷ []) rest is parted = x_is_byte (slice_index rest 0) parted
second_no_x (d ∷ e ∷ ds) rest is parted = no_x e is.1.1.0

not_hex : (ds rest : List ℕ) → IsNumeral 10 ds → IsParted rest → is_hex (ds ++ rest) ≡ false
not_hex ds rest is parted =
    let text = ds ++ rest in
    let third = is_ascii_hexdigit (slice_index text 2) in
    and_right (slice_index text 0 == 48) (slice_index text 1 == 120 && third) (and_left (slice_index text 1 == 120) third (ne_eqb (slice_index text 1) 120 (second_no_x ds rest is parted)))

decimal_longest_here : (ds rest : List ℕ) → IsNumeral 10 ds → IsParted rest → IsLongestMagnitude (ds ++ rest) (length ds) (digits_value 10 ds)
decimal_longest_here ds rest is parted =
    let whole = prefix_whole is_ascii_digit ds rest (all_test 10 is_ascii_digit digit_of ds is.1) (digit_is_byte (slice_index rest 0) parted) in
    subst (λ (w : List ℕ). IsLongestMagnitude (ds ++ rest) (length ds) (digits_value 10 w)) (take_at ds rest (length ds) refl)
    (subst (λ (n : ℕ). IsLongestMagnitude (ds ++ rest) n (digits_value 10 (take n (ds ++ rest)))) whole (decimal_longest (ds ++ rest) (not_hex ds rest is parted) (omega (arith, whole, is.0))))

digit_no_other : (c : ℕ) → digit_value c < 10 → BeginsNoOther c
digit_no_other c small = grind (arith, nat_tests)

digit_no_minus : (c : ℕ) → digit_value c < 10 → c ≢ 45
digit_no_minus c small = grind (arith, nat_tests)

first_digit : (ds rest : List ℕ) → IsNumeral 10 ds → digit_value (slice_index (ds ++ rest) 0) < 10
first_digit [] rest is = absurd (omega arith)
first_digit (d ∷ ds) rest is = is.1.0

pub decimal_token : (ds rest : List ℕ) → IsNumeral 10 ds → digits_value 10 ds < 2 ^ 32 → IsParted rest → BeginsToken (ds ++ rest) (Number (pos (digits_value 10 ds))) (length ds)
decimal_token ds rest is small parted =
    let first = first_digit ds rest is in
    record {
      lexeme = plain_longest (ds ++ rest) (length ds) (digits_value 10 ds) (digit_no_other (slice_index (ds ++ rest) 0) first) (digit_no_minus (slice_index (ds ++ rest) 0) first)
          (decimal_longest_here ds rest is parted);
      fits = (omega (arith, ints), omega (arith, ints));
    }

pub minus_token : (ds rest : List ℕ) → IsNumeral 10 ds → digits_value 10 ds ≤ 2147483648 → IsParted rest
    → BeginsToken (45 ∷ (ds ++ rest)) (Number (neg_ℤ (pos (digits_value 10 ds)))) (suc (length ds))
minus_token ds rest is small parted = record {
  lexeme = minus_longest (45 ∷ (ds ++ rest)) (length ds) (digits_value 10 ds) refl (decimal_longest_here ds rest is parted);
  fits = minus_fits (digits_value 10 ds) small;
}

hex_first : (ds rest : List ℕ) → IsNumeral 16 ds → is_ascii_hexdigit (slice_index (ds ++ rest) 0) ≡ true
hex_first [] rest is = absurd (omega arith)
hex_first (d ∷ ds) rest is = hex_of d is.1.0

hex_longest_here : (ds rest : List ℕ) → IsNumeral 16 ds → IsParted rest → IsLongestMagnitude (48 ∷ 120 ∷ (ds ++ rest)) (suc (suc (length ds))) (digits_value 16 ds)
hex_longest_here ds rest is parted =
    let text = 48 ∷ 120 ∷ (ds ++ rest) in
    let whole = prefix_whole is_ascii_hexdigit ds rest (all_test 16 is_ascii_hexdigit hex_of ds is.1) (hex_is_byte (slice_index rest 0) parted) in
    subst (λ (w : List ℕ). IsLongestMagnitude text (suc (suc (length ds))) (digits_value 16 w)) (take_at ds rest (length ds) refl)
    (subst (λ (n : ℕ). IsLongestMagnitude text (suc (suc n)) (digits_value 16 (take n (ds ++ rest)))) whole (hex_longest text refl refl (hex_first ds rest is)))

pub hex_token : (ds rest : List ℕ) → IsNumeral 16 ds → digits_value 16 ds < 2 ^ 32 → IsParted rest
    → BeginsToken (48 ∷ 120 ∷ (ds ++ rest)) (Number (pos (digits_value 16 ds))) (suc (suc (length ds)))
hex_token ds rest is small parted = record {
  lexeme = plain_longest (48 ∷ 120 ∷ (ds ++ rest)) (suc (suc (length ds))) (digits_value 16 ds) refl (omega arith) (hex_longest_here ds rest is parted);
  fits = (omega (arith, ints), omega (arith, ints));
}
