use Rattle.std.proofs.Common.{sym, subst, arith}
use Rattle.psx_lex.specs.declared.token.Kind.TheVariants.{Name}
use Rattle.psx_lex.specs.Lexeme.{IsLongest}
use Rattle.psx_lex.proofs.Names.{name_longest}
use Rattle.psx_lex.proofs.OneKind.{none_fits}
use Rattle.psx_lex.proofs.first.name.Goals as goal

pub returns-clause-found : goal.returns-clause-found
returns-clause-found c = record {
  lexeme = subst (IsLongest c.args.text.now Name) (sym c.name_len-len.ensures) (name_longest c.args.text.now c.requires);
  fits = c.if-len-gt63.false;
}

pub returns-then-len-gt63-clause-none : goal.returns-then-len-gt63-clause-none
returns-then-len-gt63-clause-none c =
    none_fits c.args.text.now Name c.name_len-len.result
    (subst (IsLongest c.args.text.now Name) (sym c.name_len-len.ensures) (name_longest c.args.text.now c.requires))
    (λ fits. absurd (omega arith))
