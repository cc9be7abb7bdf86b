-- The name or the directive that a text begins with.
use Rattle.std.proofs.Common.{◌≡◌, ℕ, zero, suc, ◌≤◌, true, false, cond, ◌==◌, List, [], ◌∷◌, length, take, drop, slice_index, sym, ap, subst, ◌∙◌, arith}
use Rattle.std.specs.List.{prefix_len, list_all}
use Rattle.std.proofs.lemmas.Bool.{false≢true, and_from, cond-true, both_ways}
use Rattle.std.proofs.lemmas.Bool.Decides.{nat_tests}
use Rattle.std.proofs.lemmas.List.Sums.{prefix_len-le-length}
use Rattle.psx_lex.specs.declared.token.Kind.{Kind}
use Rattle.psx_lex.specs.declared.token.Kind.TheVariants.{Name, Directive}
use Rattle.psx_lex.specs.Lexeme.{is_name_start, is_name_byte, IsName, is_mark, IsLexeme, IsLongest, BeginsNone}
use Rattle.psx_lex.proofs.Starts.{rank_at, rank_of, lexeme_some, only_name, only_directive}
use Rattle.psx_lex.proofs.Prefixes.{prefix_more, prefix_most, prefix_all}

start_is_byte : (c : ℕ) → is_name_start c ≡ true → is_name_byte c ≡ true
start_is_byte c pass = grind (arith, nat_tests)

-- the whole name
name_most : (text : List ℕ) (n : ℕ) → n ≤ length text → IsName (take n text) → n ≤ prefix_len is_name_byte text
name_most text zero within form = omega arith
name_most [] (suc n) within form = absurd (omega arith)
name_most (c ∷ cs) (suc n) within form =
    prefix_most is_name_byte (suc n) (c ∷ cs) within (and_from (is_name_byte c) (list_all is_name_byte (take n cs)) (start_is_byte c form.0) form.1)

name_form : (text : List ℕ) → is_name_start (slice_index text 0) ≡ true → IsName (take (prefix_len is_name_byte text) text)
name_form [] start = absurd (false≢true start)
name_form (c ∷ cs) start =
    subst (λ (n : ℕ). IsName (take n (c ∷ cs))) (sym (prefix_more is_name_byte c cs (start_is_byte c start))) (start, prefix_all is_name_byte cs)

name_rank : (c : ℕ) → is_name_start c ≡ true → rank_at c ≡ 0
name_rank c start = cond-true (is_name_start c) 0 (cond (c == 46) 1 (cond (c == 34) 3 (cond (is_mark c) 4 2))) start

pub name_longest : (text : List ℕ) → is_name_start (slice_index text 0) ≡ true → IsLongest text Name (prefix_len is_name_byte text)
name_longest text start = record {
  within = prefix_len-le-length is_name_byte text;
  form = name_form text start;
  longest = λ other more within form.
      let name = only_name other (rank_of text other more within form ∙ name_rank (slice_index text 0) start) in
      name_most text more within (subst (λ (k : Kind). IsLexeme k (take more text)) name form);
}

-- what stands behind the dot of a directive
directive_of : (c : ℕ) (cs : List ℕ) (n : ℕ) → IsLexeme Directive (c ∷ take n cs) → IsName (take n cs)
directive_of c cs n form = let same : form.0 ≡ take n cs = cc (form.1) in subst IsName same form.2

starts_name : (cs : List ℕ) (n : ℕ) → IsName (take n cs) → is_name_start (slice_index cs 0) ≡ true
starts_name cs zero form = absurd form
starts_name [] (suc n) form = absurd form
starts_name (c ∷ cs) (suc n) form = form.0

directive_most : (text : List ℕ) (n : ℕ) → n ≤ length text → IsLexeme Directive (take n text) → n ≤ suc (prefix_len is_name_byte (drop 1 text))
directive_most text zero within form = omega arith
directive_most [] (suc n) within form = absurd (omega arith)
directive_most (c ∷ cs) (suc n) within form = let most = name_most cs n (omega arith) (directive_of c cs n form) in omega arith

directive_start : (text : List ℕ) (n : ℕ) → n ≤ length text → IsLexeme Directive (take n text) → is_name_start (slice_index text 1) ≡ true
directive_start text zero within form = absurd (lexeme_some Directive form)
directive_start [] (suc n) within form = absurd (omega arith)
directive_start (c ∷ cs) (suc n) within form = starts_name cs n (directive_of c cs n form)

directive_form : (text : List ℕ) → slice_index text 0 ≡ 46 → is_name_start (slice_index text 1) ≡ true
    → (suc (prefix_len is_name_byte (drop 1 text)) ≤ length text) × IsLexeme Directive (take (suc (prefix_len is_name_byte (drop 1 text))) text)
directive_form [] dot start = absurd (omega arith)
directive_form (c ∷ cs) dot start =
    let name = take (prefix_len is_name_byte cs) cs in
    (omega (arith, prefix_len-le-length is_name_byte cs), (name, ap (λ (b : ℕ). b ∷ name) dot, name_form cs start))

only_directives : (text : List ℕ) (k : Kind) (n : ℕ) → slice_index text 0 ≡ 46 → n ≤ length text → IsLexeme k (take n text) → k ≡ Directive
only_directives text k n dot within form = only_directive k (rank_of text k n within form ∙ ap rank_at dot)

pub directive_longest : (text : List ℕ) → slice_index text 0 ≡ 46 → is_name_start (slice_index text 1) ≡ true
    → IsLongest text Directive (suc (prefix_len is_name_byte (drop 1 text)))
directive_longest text dot start =
    let here = directive_form text dot start in
    record {
      within = here.0;
      form = here.1;
      longest = λ other more within form.
          directive_most text more within (subst (λ (k : Kind). IsLexeme k (take more text)) (only_directives text other more dot within form) form);
    }

-- behind a dot that begins no name stands no directive
pub no_directive : (text : List ℕ) → slice_index text 0 ≡ 46 → is_name_start (slice_index text 1) ≡ false → BeginsNone text
no_directive text dot start k n token =
    let directive = only_directives text k n dot token.lexeme.within token.lexeme.form in
    both_ways (is_name_start (slice_index text 1)) start
    (directive_start text n token.lexeme.within (subst (λ (k : Kind). IsLexeme k (take n text)) directive token.lexeme.form))
