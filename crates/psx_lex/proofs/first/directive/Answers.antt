use Rattle.std.proofs.Common.{◌≡◌, suc, ◌+◌, sym, subst, ap, ◌∙◌, drop, arith}
use Rattle.std.specs.List.{prefix_len}
use Rattle.psx_lex.specs.declared.token.Kind.TheVariants.{Directive}
use Rattle.psx_lex.specs.Lexeme.{IsLongest, is_name_byte, is_name_start}
use Rattle.psx_lex.proofs.Names.{directive_longest, no_directive}
use Rattle.psx_lex.proofs.OneKind.{none_fits}
use Rattle.psx_lex.proofs.first.directive.Goals as goal

pub returns-then-not-is_start-clause-none : goal.returns-then-not-is_start-clause-none
returns-then-not-is_start-clause-none c =
    no_directive c.args.text.now c.requires (ap is_name_start (sym c.byte_at.ensures) ∙ sym c.is_start.ensures ∙ c.if-not-is_start.true)

pub returns-then-len-gt63-clause-none : goal.returns-then-len-gt63-clause-none
returns-then-len-gt63-clause-none c =
    let start = ap is_name_start (sym c.byte_at.ensures) ∙ sym c.is_start.ensures ∙ c.if-not-is_start.false in
    let len : c.name_len-len.result ≡ prefix_len is_name_byte (drop 1 c.args.text.now) = c.name_len-len.ensures ∙ ap (prefix_len is_name_byte) c.skip.ensures in
    none_fits c.args.text.now Directive (suc (prefix_len is_name_byte (drop 1 c.args.text.now))) (directive_longest c.args.text.now c.requires start)
    (λ fits. absurd (omega arith))

pub returns-clause-found : goal.returns-clause-found
returns-clause-found c =
    let start = ap is_name_start (sym c.byte_at.ensures) ∙ sym c.is_start.ensures ∙ c.if-not-is_start.false in
    let len : c.name_len-len.result ≡ prefix_len is_name_byte (drop 1 c.args.text.now) = c.name_len-len.ensures ∙ ap (prefix_len is_name_byte) c.skip.ensures in
    let whole : suc (prefix_len is_name_byte (drop 1 c.args.text.now)) ≡ c.name_len-len.result + 1 = omega arith in
    record {
      lexeme = subst (IsLongest c.args.text.now Directive) whole (directive_longest c.args.text.now c.requires start);
      fits = omega arith;
    }
