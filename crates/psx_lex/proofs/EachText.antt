-- Each text begins with a token, or with none.
use Rattle.std.proofs.Common.{◌≡◌, ◌≢◌, ℕ, suc, ◌+◌, ◌≤◌, pos, neg_ℤ, false, ◌||◌, ◌==◌, ◌&&◌, List, drop, slice_index, Option, Some, None, refl, sym, ◌∙◌, ◌⊎◌, inl, inr, ⊎_elim, arith}
use Rattle.std.specs.Char.{is_ascii_digit, is_ascii_hexdigit}
use Rattle.std.specs.List.{prefix_len}
use Rattle.std.proofs.lemmas.Bool.{cases_Bool, cases_lt, cases_eq, and_parts, eqb-true, or_from, ne_eqb}
use Rattle.std.proofs.lemmas.Int.{ints}
use Rattle.psx_lex.specs.declared.token.Kind.{Kind}
use Rattle.psx_lex.specs.declared.token.Kind.TheVariants.{Name, Directive, Number, Text, Mark}
use Rattle.psx_lex.specs.Lexeme.{is_name_start, is_name_byte, is_mark, IsLongest, Fits, BeginsToken, BeginsNone}
use Rattle.psx_lex.specs.Magnitude.{IsLongestMagnitude, HasNoMagnitude, BeginsNoOther}
use Rattle.psx_lex.proofs.OneKind.{none_fits}
use Rattle.psx_lex.proofs.Names.{name_longest, directive_longest, no_directive}
use Rattle.psx_lex.proofs.Texts.{text_end, text_longest, no_text}
use Rattle.psx_lex.proofs.Magnitudes.{is_hex, hex_longest, decimal_longest, no_magnitude, quoted_longest, not_quoted}
use Rattle.psx_lex.proofs.Numbers.{plain_longest, no_plain, minus_longest, no_minus, minus_fits, minus_large}
use Rattle.psx_lex.proofs.Marks.{mark_longest}

-- what stands at the beginning of a text
abbrev pub First : List ℕ → Type 0
First text = ((k : Kind) × (n : ℕ) × BeginsToken text k n) ⊎ BeginsNone text

-- a longest lexeme is a token, or there is none
decided : (text : List ℕ) (k : Kind) (n : ℕ) → IsLongest text k n → Fits k n ⊎ (Fits k n → ⊥) → First text
decided text k n longest = ⊎_elim (λ fits. inl (k, n, record { lexeme = longest; fits = fits })) (λ large. inr (none_fits text k n longest large))

short : (n m : ℕ) → (n ≤ m) ⊎ (n ≤ m → ⊥)
short n m = ⊎_elim (λ long. inr (λ fits. absurd (omega arith))) (λ fits. inl fits) (cases_lt m n)

directives : (text : List ℕ) → slice_index text 0 ≡ 46 → First text
directives text dot = ⊎_elim
    (λ start. decided text Directive (suc (prefix_len is_name_byte (drop 1 text))) (directive_longest text dot start) (short (suc (prefix_len is_name_byte (drop 1 text))) 64))
    (λ other. inr (no_directive text dot other)) (cases_Bool (is_name_start (slice_index text 1)))

ends : (o : Option ℕ) → ((n : ℕ) × (o ≡ Some n)) ⊎ (o ≡ None)
ends None = inr refl
ends (Some n) = inl (n, refl)

texts : (text : List ℕ) → slice_index text 0 ≡ 34 → First text
texts text quote = ⊎_elim (λ closed. decided text Text (closed.0 + 1) (text_longest text closed.0 quote closed.1) (inl tt)) (λ broken. inr (no_text text quote broken))
    (ends (text_end false 0 (drop 1 text)))

abbrev Unsigned : List ℕ → Type 0
Unsigned text = ((n : ℕ) × (v : ℕ) × IsLongestMagnitude text n v) ⊎ HasNoMagnitude text

quoted : (text : List ℕ) → slice_index text 0 ≡ 39 → Unsigned text
quoted text first =
    ⊎_elim
    (λ third. ⊎_elim (λ low. inr (not_quoted text first (λ v is t l h q s. absurd (omega arith))))
    (λ low. ⊎_elim (λ high. inr (not_quoted text first (λ v is t l h q s. absurd (omega arith))))
    (λ high. ⊎_elim (λ quote. inr (not_quoted text first (λ v is t l h q s. q (sym is ∙ quote))))
    (λ quote. ⊎_elim (λ slash. inr (not_quoted text first (λ v is t l h q s. s (sym is ∙ slash))))
    (λ slash. inl (3, slice_index text 1, quoted_longest text first third low high quote slash)) (cases_eq (slice_index text 1) 92))
    (cases_eq (slice_index text 1) 39)) (cases_lt 126 (slice_index text 1))) (cases_lt (slice_index text 1) 32))
    (λ third. inr (not_quoted text first (λ v is t l h q s. third t))) (cases_eq (slice_index text 2) 39)

unsigned : (text : List ℕ) → Unsigned text
unsigned text = ⊎_elim (λ first. quoted text first)
    (λ first. ⊎_elim
    (λ hex.
    let a = and_parts (slice_index text 0 == 48) (slice_index text 1 == 120 && is_ascii_hexdigit (slice_index text 2)) hex in
    let b = and_parts (slice_index text 1 == 120) (is_ascii_hexdigit (slice_index text 2)) a.1 in
    inl (_, _, hex_longest text (eqb-true (slice_index text 0) 48 a.0) (eqb-true (slice_index text 1) 120 b.0) b.1))
    (λ plain. ⊎_elim (λ some. inl (_, _, decimal_longest text plain some))
    (λ none. inr (no_magnitude text first plain (omega arith))) (cases_lt 0 (prefix_len is_ascii_digit text)))
    (cases_Bool (is_hex text))) (cases_eq (slice_index text 0) 39)

minus : (text : List ℕ) → slice_index text 0 ≡ 45 → First text
minus text sign = ⊎_elim
    (λ read. decided text (Number (neg_ℤ (pos read.1))) (suc read.0) (minus_longest text read.0 read.1 sign read.2)
    (⊎_elim (λ large. inr (λ fits. minus_large read.1 large fits.0)) (λ small. inl (minus_fits read.1 small)) (cases_lt 2147483648 read.1)))
    (λ none. inr (no_minus text sign none)) (unsigned (drop 1 text))

plain : (text : List ℕ) → BeginsNoOther (slice_index text 0) → slice_index text 0 ≢ 45 → First text
plain text other plus = ⊎_elim
    (λ read. decided text (Number (pos read.1)) read.0 (plain_longest text read.0 read.1 other plus read.2)
    (⊎_elim (λ large. inr (λ fits. absurd (omega (arith, ints, fits.1)))) (λ small. inl (omega (arith, ints), omega (arith, ints))) (cases_lt 4294967295 read.1)))
    (λ none. inr (no_plain text other plus none)) (unsigned text)

pub first_or_none : (text : List ℕ) → First text
first_or_none text =
    let c = slice_index text 0 in
    ⊎_elim (λ start. decided text Name (prefix_len is_name_byte text) (name_longest text start) (short (prefix_len is_name_byte text) 63))
    (λ start. ⊎_elim (λ dot. directives text dot)
    (λ dot. ⊎_elim (λ quote. texts text quote)
    (λ quote. ⊎_elim (λ mark. decided text Mark 1 (mark_longest text mark) (inl tt))
    (λ mark.
    let other : BeginsNoOther c = or_from (is_name_start c) (c == 46 || (c == 34 || is_mark c)) start
    (or_from (c == 46) (c == 34 || is_mark c) (ne_eqb c 46 dot) (or_from (c == 34) (is_mark c) (ne_eqb c 34 quote) mark)) in
    ⊎_elim (λ sign. minus text sign) (λ plus. plain text other plus) (cases_eq c 45))
    (cases_Bool (is_mark c))) (cases_eq c 34)) (cases_eq c 46)) (cases_Bool (is_name_start c))
