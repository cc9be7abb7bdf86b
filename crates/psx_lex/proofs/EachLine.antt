-- Each line has tokens, or one first byte that begins none.
use Rattle.std.proofs.Common.{ℕ, zero, suc, ◌+◌, ◌-◌, ◌<◌, List, [], ◌∷◌, ◌++◌, length, drop, slice_index, Result, Ok, Err, ⊎_elim, arith}
use Rattle.std.proofs.lemmas.Bool.{cases_Bool, cases_lt, cases_eq, both_ways}
use Rattle.psx_lex.specs.declared.token.Token.{Token}
use Rattle.psx_lex.specs.declared.token.LexError.{LexError}
use Rattle.psx_lex.specs.declared.token.LexError.TheVariants.{BadToken}
use Rattle.psx_lex.specs.Line.{is_blank, HasTokens, IsTokensOf, HasOneAnswer}
use Rattle.psx_lex.proofs.Starts.{some_bytes}
use Rattle.psx_lex.proofs.EachText.{first_or_none}
use Rattle.psx_lex.proofs.Lines.{no_blank, HasTokens-blank, HasTokens-push, one_answer}

abbrev Answer : List ℕ → Type 0
Answer line = (answer : Result (List Token) LexError) × IsTokensOf line answer

answer_from : (fuel : ℕ) (line : List ℕ) (before : List Token) (at : ℕ) → HasTokens line 0 before at → length line - at < fuel → Answer line
answer_from zero line before at passed few = absurd (omega arith)
answer_from (suc fuel) line before at passed few = ⊎_elim
    (λ below. ⊎_elim (λ comment. (Ok before, (at, passed, λ more. comment)))
    (λ comment. ⊎_elim (λ blank. answer_from fuel line before (at + 1) (HasTokens-blank line 0 before at passed below blank) (omega arith))
    (λ black. ⊎_elim
    (λ token. answer_from fuel line (before ++ record { kind = token.0; from = at; to = at + token.1 } ∷ []) (at + token.1) (HasTokens-push line 0 before at token.0 token.1 passed below token.2)
    (omega (arith, some_bytes (drop at line) token.0 token.1 token.2.lexeme.form)))
    (λ none. (
      Err (BadToken at),
      (before, passed, record { within = below; blank = λ blank. both_ways (is_blank (slice_index line at)) black blank; comment = comment; none = none }),
    ))
    (first_or_none (drop at line))) (cases_Bool (is_blank (slice_index line at)))) (cases_eq (slice_index line at) 35))
    (λ past. (Ok before, (at, passed, λ more. absurd (omega arith)))) (cases_lt at (length line))

pub has_one_answer : (line : List ℕ) → HasOneAnswer line
has_one_answer line =
    let found = answer_from (length line + 1) line [] 0 (no_blank line 0 (omega arith)) (omega arith) in
    (found.0, found.1, λ other is. one_answer line other found.0 is found.1)
