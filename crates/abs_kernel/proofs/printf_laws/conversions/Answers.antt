use Rattle.abs_kernel.proofs.PrintfEvaluated.{kinds_shown, numbers_shown, flags_shown, others_shown, many_digits}
use Rattle.abs_kernel.proofs.printf_laws.conversions.Goals as goal

pub returns-clause-kinds_shown : goal.returns-clause-kinds_shown
returns-clause-kinds_shown c = kinds_shown

pub returns-clause-numbers_shown : goal.returns-clause-numbers_shown
returns-clause-numbers_shown c = numbers_shown

pub returns-clause-flags_shown : goal.returns-clause-flags_shown
returns-clause-flags_shown c = flags_shown

pub returns-clause-others_shown : goal.returns-clause-others_shown
returns-clause-others_shown c = others_shown

pub returns-clause-many_digits : goal.returns-clause-many_digits
returns-clause-many_digits c = many_digits
