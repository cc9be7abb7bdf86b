use Rattle.std.proofs.Common.{◌≡◌, true, slice_index, sym, ap, ◌∙◌}
use Rattle.psx_lex.specs.Lexeme.{is_mark}
use Rattle.psx_lex.proofs.Marks.{mark_longest}
use Rattle.psx_lex.proofs.first.first_token.Goals as goal

pub returns-then-is_mark-clause-found : goal.returns-then-is_mark-clause-found
returns-then-is_mark-clause-found c =
    let mark : is_mark (slice_index c.args.text.now 0) ≡ true = ap is_mark (sym c.byte_at-first.ensures) ∙ sym c.is_mark.ensures ∙ c.if-is_mark.true in
    record { lexeme = mark_longest c.args.text.now mark; fits = tt }
