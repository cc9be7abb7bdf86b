-- The byte that a token begins with tells its kind.
use Rattle.std.proofs.Common.{◌≡◌, ℕ, zero, suc, ◌<◌, ◌≤◌, Bool, true, cond, ◌||◌, ◌==◌, List, [], ◌∷◌, length, take, slice_index, refl, sym, ap, subst, ◌∙◌, ◌⊎◌, inl, inr, ⊎_elim, arith}
use Rattle.std.specs.Char.{digit_value, is_ascii_digit}
use Rattle.std.proofs.lemmas.Bool.{cond-true, eqb-true, or_cases, or_left, or_right, eq-eqb}
use Rattle.std.proofs.lemmas.Bool.Decides.{nat_tests}
use Rattle.std.proofs.lemmas.Str.Parse.{digit_from_value}
use Rattle.psx_lex.specs.declared.token.Kind.{Kind}
use Rattle.psx_lex.specs.declared.token.Kind.TheVariants.{Name, Directive, Number, Text, Mark}
use Rattle.psx_lex.specs.Lexeme.{is_name_start, is_mark, IsMagnitude, IsLexeme}

-- a token of this kind can begin with this byte
abbrev pub starts : Kind → ℕ → Bool
starts Name c = is_name_start c
starts Directive c = c == 46
starts (Number value) c = is_ascii_digit c || (c == 39 || c == 45)
starts Text c = c == 34
starts Mark c = is_mark c

-- a number for each kind, and for the kind that begins with a byte
abbrev pub rank : Kind → ℕ
rank Name = 0
rank Directive = 1
rank (Number value) = 2
rank Text = 3
rank Mark = 4

abbrev pub rank_at : ℕ → ℕ
rank_at c = cond (is_name_start c) 0 (cond (c == 46) 1 (cond (c == 34) 3 (cond (is_mark c) 4 2)))

pub digit_of : (c : ℕ) → digit_value c < 10 → is_ascii_digit c ≡ true
digit_of c small = let range = digit_from_value c small in grind (arith, nat_tests)

pub magnitude_starts : (c : ℕ) (cs : List ℕ) (n : ℕ) → IsMagnitude (c ∷ cs) n → (is_ascii_digit c ≡ true) ⊎ (c ≡ 39)
magnitude_starts c cs n = ⊎_elim
    (λ decimal. inl (digit_of c decimal.0.1.0))
    (⊎_elim (λ hex. inl (let e : c ≡ 48 = cc (hex.1) in subst (λ (c : ℕ). is_ascii_digit c ≡ true) (sym e) refl))
    (λ quoted. inr (cc (quoted.0))))

lexeme_starts : (k : Kind) (c : ℕ) (cs : List ℕ) → IsLexeme k (c ∷ cs) → starts k c ≡ true
lexeme_starts Name c cs form = form.0
lexeme_starts Directive c cs form = eq-eqb c 46 (cc (form.1))
lexeme_starts (Number value) c cs form = ⊎_elim
    (λ plain. ⊎_elim (λ digit. or_left (is_ascii_digit c) (c == 39 || c == 45) digit)
    (λ quote. or_right (is_ascii_digit c) (c == 39 || c == 45) (or_left (c == 39) (c == 45) (eq-eqb c 39 quote))) (magnitude_starts c cs plain.0 plain.1))
    (λ minus. or_right (is_ascii_digit c) (c == 39 || c == 45) (or_right (c == 39) (c == 45) (eq-eqb c 45 (cc (minus.2))))) form
lexeme_starts Text c cs form = eq-eqb c 34 (cc (form.1.1))
lexeme_starts Mark c cs form = subst (λ (c : ℕ). is_mark c ≡ true) (let e : form.0 ≡ c = cc (form.1) in e) form.2

pub lexeme_some : (k : Kind) → IsLexeme k [] → ⊥
lexeme_some Name form = form
lexeme_some Directive form = cc (form.1)
lexeme_some (Number value) form = ⊎_elim
    (λ plain. ⊎_elim (λ decimal. absurd (omega arith)) (⊎_elim (λ hex. cc (hex.1)) (λ quoted. cc (quoted.0))) plain.1)
    (λ minus. cc (minus.2)) form
lexeme_some Text form = cc (form.1.1)
lexeme_some Mark form = cc (form.1)

at_byte : (b c : ℕ) (r : ℕ) → rank_at b ≡ r → (c == b) ≡ true → r ≡ rank_at c
at_byte b c r e same = sym e ∙ ap rank_at (sym (eqb-true c b same))

starts_rank : (k : Kind) (c : ℕ) → starts k c ≡ true → rank k ≡ rank_at c
starts_rank Name c pass = sym (cond-true (is_name_start c) 0 (cond (c == 46) 1 (cond (c == 34) 3 (cond (is_mark c) 4 2))) pass)
starts_rank Directive c pass = at_byte 46 c 1 refl pass
starts_rank (Number value) c pass = ⊎_elim (λ digit. grind (arith, nat_tests))
    (λ other. ⊎_elim (at_byte 39 c 2 refl) (at_byte 45 c 2 refl) (or_cases (c == 39) (c == 45) other)) (or_cases (is_ascii_digit c) (c == 39 || c == 45) pass)
starts_rank Text c pass = at_byte 34 c 3 refl pass
starts_rank Mark c pass = ⊎_elim
    (λ one. ⊎_elim (at_byte 58 c 4 refl) (at_byte 40 c 4 refl) (or_cases (c == 58) (c == 40) one))
    (λ other. ⊎_elim (at_byte 41 c 4 refl) (at_byte 43 c 4 refl) (or_cases (c == 41) (c == 43) other)) (or_cases (c == 58 || c == 40) (c == 41 || c == 43) pass)

-- the byte that a lexeme begins with
pub starts_of : (text : List ℕ) (k : Kind) (n : ℕ) → n ≤ length text → IsLexeme k (take n text) → starts k (slice_index text 0) ≡ true
starts_of text k zero within form = absurd (lexeme_some k form)
starts_of [] k (suc n) within form = absurd (omega arith)
starts_of (c ∷ cs) k (suc n) within form = lexeme_starts k c (take n cs) form

-- the kind of a lexeme that a text begins with
pub rank_of : (text : List ℕ) (k : Kind) (n : ℕ) → n ≤ length text → IsLexeme k (take n text) → rank k ≡ rank_at (slice_index text 0)
rank_of text k n within form = starts_rank k (slice_index text 0) (starts_of text k n within form)

pub some_bytes : (text : List ℕ) (k : Kind) (n : ℕ) → IsLexeme k (take n text) → 0 < n
some_bytes text k zero form = absurd (lexeme_some k form)
some_bytes text k (suc n) form = omega arith

pub only_name : (k : Kind) → rank k ≡ 0 → k ≡ Name
only_name Name e = refl
only_name Directive e = absurd (omega arith)
only_name (Number value) e = absurd (omega arith)
only_name Text e = absurd (omega arith)
only_name Mark e = absurd (omega arith)

pub only_directive : (k : Kind) → rank k ≡ 1 → k ≡ Directive
only_directive Directive e = refl
only_directive Name e = absurd (omega arith)
only_directive (Number value) e = absurd (omega arith)
only_directive Text e = absurd (omega arith)
only_directive Mark e = absurd (omega arith)

pub only_text : (k : Kind) → rank k ≡ 3 → k ≡ Text
only_text Text e = refl
only_text Name e = absurd (omega arith)
only_text Directive e = absurd (omega arith)
only_text (Number value) e = absurd (omega arith)
only_text Mark e = absurd (omega arith)

pub only_mark : (k : Kind) → rank k ≡ 4 → k ≡ Mark
only_mark Mark e = refl
only_mark Name e = absurd (omega arith)
only_mark Directive e = absurd (omega arith)
only_mark (Number value) e = absurd (omega arith)
only_mark Text e = absurd (omega arith)

pub mark_rank : (c : ℕ) → is_mark c ≡ true → rank_at c ≡ 4
mark_rank c pass = sym (starts_rank Mark c pass)
