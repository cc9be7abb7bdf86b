-- The mark that a text begins with.
use Rattle.std.proofs.Common.{◌≡◌, ℕ, ◌≤◌, true, List, [], ◌∷◌, length, take, slice_index, refl, ap, subst, ◌∙◌, length-take, arith}
use Rattle.std.proofs.lemmas.Bool.{false≢true}
use Rattle.psx_lex.specs.declared.token.Kind.{Kind}
use Rattle.psx_lex.specs.declared.token.Kind.TheVariants.{Mark}
use Rattle.psx_lex.specs.Lexeme.{is_mark, IsLexeme, IsLongest}
use Rattle.psx_lex.proofs.Starts.{rank_of, mark_rank, only_mark}

mark_form : (text : List ℕ) → is_mark (slice_index text 0) ≡ true → (1 ≤ length text) × IsLexeme Mark (take 1 text)
mark_form [] mark = absurd (false≢true mark)
mark_form (c ∷ cs) mark = (omega arith, (c, refl, mark))

pub mark_longest : (text : List ℕ) → is_mark (slice_index text 0) ≡ true → IsLongest text Mark 1
mark_longest text mark =
    let here = mark_form text mark in
    record {
      within = here.0;
      form = here.1;
      longest = λ other more within form.
          let kind = only_mark other (rank_of text other more within form ∙ mark_rank (slice_index text 0) mark) in
          let one = subst (λ (k : Kind). IsLexeme k (take more text)) kind form in
          omega (arith, ap length one.1, length-take more text);
    }
