-- How the tokens of a line grow, and that they are the only ones.
use Rattle.std.proofs.Common.{◌≡◌, ℕ, ◌+◌, ◌-◌, ◌<◌, ◌≤◌, true, false, ◌||◌, ◌==◌, List, [], ◌∷◌, ◌++◌, length, drop, slice_index, Result, Ok, Err, refl, sym, ap, subst, ◌∙◌, ◌⊎◌, inl, inr, ⊎_elim, length-drop, arith}
use Rattle.std.proofs.lemmas.Bool.{cases_lt, both_ways, eqb-true, or_cases}
use Rattle.std.proofs.lemmas.List.{get_or-drop}
use Rattle.psx_lex.specs.declared.token.Kind.{Kind}
use Rattle.psx_lex.specs.declared.token.Kind.TheVariants.{Name, Directive, Number, Text, Mark}
use Rattle.psx_lex.specs.declared.token.Token.{Token}
use Rattle.psx_lex.specs.declared.token.LexError.{LexError}
use Rattle.psx_lex.specs.declared.token.LexError.TheVariants.{BadToken, Memory}
use Rattle.psx_lex.specs.Lexeme.{BeginsToken}
use Rattle.psx_lex.specs.Line.{is_blank, IsBlank, HasTokens, HasNoMore, IsBadAt, IsTokensOf}
use Rattle.psx_lex.proofs.Starts.{starts, starts_of, some_bytes}
use Rattle.psx_lex.proofs.OneKind.{same_longest}

pub no_blank : (line : List ℕ) (at : ℕ) → at ≤ length line → IsBlank line at at
no_blank line at within = record { order = omega arith; within = within; blank = λ k low high. absurd (omega arith) }

more_blank : (line : List ℕ) (from at : ℕ) → IsBlank line from at → at < length line → is_blank (slice_index line at) ≡ true → IsBlank line from (at + 1)
more_blank line from at before below blank = record {
  order = omega (arith, before.order);
  within = omega arith;
  blank = λ k low high.
      ⊎_elim (λ earlier. before.blank k low earlier)
      (λ here. let same : at ≡ k = omega arith in subst (λ (i : ℕ). is_blank (slice_index line i) ≡ true) same blank) (cases_lt k at);
}

-- one more blank
pub HasTokens-blank : (line : List ℕ) (from : ℕ) (tokens : List Token) (at : ℕ) → HasTokens line from tokens at → at < length line → is_blank (slice_index line at) ≡ true
    → HasTokens line from tokens (at + 1)
HasTokens-blank line from [] at before below blank = more_blank line from at before below blank
HasTokens-blank line from (t ∷ ts) at before below blank = (before.0, before.1, before.2, HasTokens-blank line t.to ts at before.3 below blank)

-- one more token
pub HasTokens-push : (line : List ℕ) (from : ℕ) (tokens : List Token) (at : ℕ) (k : Kind) (len : ℕ) → HasTokens line from tokens at → at < length line → BeginsToken (drop at line) k len
    → HasTokens line from (tokens ++ record { kind = k; from = at; to = at + len } ∷ []) (at + len)
HasTokens-push line from [] at k len before below token =
    let size : len ≡ at + len - at = omega arith in (
      before,
      omega arith,
      subst (BeginsToken (drop at line) k) size token,
      no_blank line (at + len) (omega (arith, token.lexeme.within, length-drop at line)),
    )
HasTokens-push line from (t ∷ ts) at k len before below token = (before.0, before.1, before.2, HasTokens-push line t.to ts at k len before.3 below token)

-- a byte that begins no token
is_void : (c : ℕ) (k : Kind) → (is_blank c ≡ true) ⊎ (c ≡ 35) → starts k c ≡ true → ⊥
is_void c k void start =
    let at = λ (b : ℕ) (none : (k : Kind) → starts k b ≡ false) (same : c ≡ b). both_ways (starts k c) (ap (starts k) same ∙ none k) start in
    ⊎_elim
    (λ blank. ⊎_elim (λ space. at 32 (λ k. no_space k) (eqb-true c 32 space))
    (λ other. ⊎_elim (λ tab. at 9 (λ k. no_tab k) (eqb-true c 9 tab)) (λ comma. at 44 (λ k. no_comma k) (eqb-true c 44 comma)) (or_cases (c == 9) (c == 44) other))
    (or_cases (c == 32) (c == 9 || c == 44) blank))
    (λ comment. at 35 (λ k. no_comment k) comment) void
  where
    no_space : (k : Kind) → starts k 32 ≡ false
    no_space Name = refl
    no_space Directive = refl
    no_space (Number value) = refl
    no_space Text = refl
    no_space Mark = refl

    no_tab : (k : Kind) → starts k 9 ≡ false
    no_tab Name = refl
    no_tab Directive = refl
    no_tab (Number value) = refl
    no_tab Text = refl
    no_tab Mark = refl

    no_comma : (k : Kind) → starts k 44 ≡ false
    no_comma Name = refl
    no_comma Directive = refl
    no_comma (Number value) = refl
    no_comma Text = refl
    no_comma Mark = refl

    no_comment : (k : Kind) → starts k 35 ≡ false
    no_comment Name = refl
    no_comment Directive = refl
    no_comment (Number value) = refl
    no_comment Text = refl
    no_comment Mark = refl

-- a token stands on a byte of the line, which is no blank and begins no comment
token_byte : (line : List ℕ) (at : ℕ) (k : Kind) (len : ℕ) → BeginsToken (drop at line) k len → (is_blank (slice_index line at) ≡ true) ⊎ (slice_index line at ≡ 35) → ⊥
token_byte line at k len token void =
    let first : slice_index (drop at line) 0 ≡ slice_index line at = get_or-drop at line 0 0 ∙ ap (slice_index line) (omega arith) in
    is_void (slice_index line at) k void (subst (λ (c : ℕ). starts k c ≡ true) first (starts_of (drop at line) k len token.lexeme.within token.lexeme.form))

token_within : (line : List ℕ) (at : ℕ) (k : Kind) (len : ℕ) → BeginsToken (drop at line) k len → at < length line
token_within line at k len token = omega (arith, token.lexeme.within, some_bytes (drop at line) k len token.lexeme.form, length-drop at line)

-- tokens go no further
abbrev Stops : List ℕ → ℕ → Type 0
Stops line at = HasNoMore line at ⊎ IsBadAt line at

stop_blank : (line : List ℕ) (at : ℕ) → Stops line at → at < length line → is_blank (slice_index line at) ≡ true → ⊥
stop_blank line at stop below blank =
    ⊎_elim (λ ends. let wrong = subst (λ (c : ℕ). is_blank c ≡ true) (ends below) blank in absurd (both_ways (is_blank 35) refl wrong)) (λ bad. bad.blank blank) stop

stop_token : (line : List ℕ) (at : ℕ) (k : Kind) (len : ℕ) → Stops line at → BeginsToken (drop at line) k len → ⊥
stop_token line at k len stop token =
    ⊎_elim (λ ends. token_byte line at k len token (inr (ends (token_within line at k len token)))) (λ bad. bad.none k len token) stop

same_stop : (line : List ℕ) (from m n : ℕ) → IsBlank line from m → IsBlank line from n → Stops line m → Stops line n → m ≡ n
same_stop line from m n a b stop other =
    ⊎_elim (λ less. absurd (stop_blank line m stop (omega (arith, b.within)) (b.blank m a.order less)))
    (λ least. ⊎_elim (λ less. absurd (stop_blank line n other (omega (arith, a.within)) (a.blank n b.order less))) (λ most. omega arith) (cases_lt n m)) (cases_lt m n)

-- where tokens stop, none begins behind blanks
stop_or_token : (line : List ℕ) (from m at : ℕ) (k : Kind) (len : ℕ) → IsBlank line from m → IsBlank line from at → Stops line m → BeginsToken (drop at line) k len → ⊥
stop_or_token line from m at k len a b stop token =
    ⊎_elim (λ less. stop_blank line m stop (omega (arith, b.within)) (b.blank m a.order less))
    (λ least. ⊎_elim (λ less. token_byte line at k len token (inl (a.blank at b.order less)))
    (λ most. let same : at ≡ m = omega arith in stop_token line m k len stop (subst (λ (i : ℕ). BeginsToken (drop i line) k len) same token)) (cases_lt at m)) (cases_lt m at)

same_from : (line : List ℕ) (from m n : ℕ) (k l : Kind) (i j : ℕ) → IsBlank line from m → IsBlank line from n → BeginsToken (drop m line) k i → BeginsToken (drop n line) l j → m ≡ n
same_from line from m n k l i j a b token other =
    ⊎_elim (λ less. absurd (token_byte line m k i token (inl (b.blank m a.order less))))
    (λ least. ⊎_elim (λ less. absurd (token_byte line n l j other (inl (a.blank n b.order less)))) (λ most. omega arith) (cases_lt n m)) (cases_lt m n)

pub same_tokens : (line : List ℕ) (from : ℕ) (ts us : List Token) (m n : ℕ) → HasTokens line from ts m → HasTokens line from us n → Stops line m → Stops line n → (ts ≡ us) × (m ≡ n)
same_tokens line from [] [] m n a b stop other = (refl, same_stop line from m n a b stop other)
same_tokens line from [] (u ∷ us) m n a b stop other = absurd (stop_or_token line from m u.from u.kind (u.to - u.from) a b.0 stop b.2)
same_tokens line from (t ∷ ts) [] m n a b stop other = absurd (stop_or_token line from n t.from t.kind (t.to - t.from) b a.0 other a.2)
same_tokens line from (t ∷ ts) (u ∷ us) m n a b stop other =
    let place : t.from ≡ u.from = same_from line from t.from u.from t.kind u.kind (t.to - t.from) (u.to - u.from) a.0 b.0 a.2 b.2 in
    let moved = subst (λ (i : ℕ). BeginsToken (drop i line) t.kind (t.to - t.from)) place a.2 in
    let token = same_longest (drop u.from line) t.kind u.kind (t.to - t.from) (u.to - u.from) moved.lexeme b.2.lexeme in
    let end : t.to ≡ u.to = omega (arith, a.1, b.1, token.1, place) in
    let rest = same_tokens line u.to ts us m n (subst (λ (i : ℕ). HasTokens line i ts m) end a.3) b.3 stop other in
    ((λ i. record { kind = token.0 i; from = place i; to = end i } ∷ rest.0 i), rest.1)

not_both : (line : List ℕ) (m n : ℕ) → m ≡ n → HasNoMore line m → IsBadAt line n → ⊥
not_both line m n same ends bad = bad.comment (subst (HasNoMore line) same ends bad.within)

pub one_answer : (line : List ℕ) (a b : Result (List Token) LexError) → IsTokensOf line a → IsTokensOf line b → a ≡ b
one_answer line (Ok ts) (Ok us) a b = ap Ok (same_tokens line 0 ts us a.0 b.0 a.1 b.1 (inl a.2) (inl b.2)).0
one_answer line (Err (BadToken m)) (Err (BadToken n)) a b = ap (λ (i : ℕ). Err (BadToken i)) (same_tokens line 0 a.0 b.0 m n a.1 b.1 (inr a.2) (inr b.2)).1
one_answer line (Ok ts) (Err (BadToken n)) a b = absurd (not_both line a.0 n (same_tokens line 0 ts b.0 a.0 n a.1 b.1 (inl a.2) (inr b.2)).1 a.2 b.2)
one_answer line (Err (BadToken m)) (Ok us) a b = absurd (not_both line b.0 m (sym (same_tokens line 0 a.0 us m b.0 a.1 b.1 (inr a.2) (inl b.2)).1) b.2 a.2)
one_answer line (Err Memory) b none is = absurd none
one_answer line (Ok ts) (Err Memory) is none = absurd none
one_answer line (Err (BadToken m)) (Err Memory) is none = absurd none
