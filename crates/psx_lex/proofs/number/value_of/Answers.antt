use Rattle.std.proofs.lemmas.Str.{IsUtf8-from_ascii}
use Rattle.psx_lex.proofs.Magnitudes.{digits_ascii}
use Rattle.psx_lex.proofs.number.value_of.Goals as goal

pub returns-in_default : goal.returns-in_default
returns-in_default c small =
    absurd (c.in_default.ensures.cases.0 (IsUtf8-from_ascii c.args.digits.now (digits_ascii c.args.radix c.args.digits.now c.requires.most c.requires.digits.1)))
