use Rattle.std.proofs.Common.{◌≡◌, ℕ, ◌+◌, true, List, Ok, Err, slice_index, inr, sym, ap, subst, ◌∙◌, rules}
use Rattle.psx_lex.specs.declared.token.Token.{Token}
use Rattle.psx_lex.specs.declared.token.LexError.TheVariants.{BadToken}
use Rattle.psx_lex.specs.Lexeme.{BeginsToken}
use Rattle.psx_lex.specs.Line.{is_blank, HasTokens, IsTokensOf}
use Rattle.psx_lex.proofs.Lines.{HasTokens-blank, HasTokens-push, one_answer}
use Rattle.psx_lex.proofs.line.tokens.Goals as goal

pub loop-at-preserved-then-is_blank : goal.loop-at-preserved-then-is_blank
loop-at-preserved-then-is_blank c =
    let blank : is_blank (slice_index c.args.line.now c.loop-at.at) ≡ true = ap is_blank (sym c.byte_at-byte.ensures) ∙ sym c.is_blank.ensures ∙ c.if-is_blank.true in
    HasTokens-blank c.args.line.now 0 c.loop-at.tokens.items c.loop-at.at c.loop-at.invariant c.loop-at-test.true blank

pub loop-at-preserved : goal.loop-at-preserved
loop-at-preserved c =
    let first = c.in-Some.first in
    let token = subst (λ (text : List ℕ). BeginsToken text first.kind first.len) c.skip.ensures c.in-Some.ensures.found in
    subst (λ (tokens : List Token). HasTokens c.args.line.now 0 tokens (c.loop-at.at + first.len)) (sym c.in-Ok.ensures.items)
    (HasTokens-push c.args.line.now 0 c.loop-at.tokens.items c.loop-at.at first.kind first.len c.loop-at.invariant c.loop-at-test.true token)

pub returns-in_default-clause-only : goal.returns-in_default-clause-only
returns-in_default-clause-only c answer is =
    let here : IsTokensOf c.args.line.now (Err (BadToken c.loop-at.at)) = search rules in
    inr (one_answer c.args.line.now answer (Err (BadToken c.loop-at.at)) is here)

pub returns-clause-only : goal.returns-clause-only
returns-clause-only c answer is =
    let here : IsTokensOf c.args.line.now (Ok c.loop-at.tokens.items) = search rules in
    one_answer c.args.line.now answer (Ok c.loop-at.tokens.items) is here
