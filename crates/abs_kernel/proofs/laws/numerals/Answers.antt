use Rattle.abs_kernel.proofs.Numerals.{numeral_is_one}
use Rattle.abs_kernel.proofs.laws.numerals.Goals as goal

pub returns : goal.returns
returns c = numeral_is_one
