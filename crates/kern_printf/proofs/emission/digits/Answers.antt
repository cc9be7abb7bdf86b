use Rattle.kern_printf.proofs.DigitsStage.{stage}
use Rattle.kern_printf.proofs.emission.digits.Goals as goal

pub returns-clause-stage : goal.returns-clause-stage
returns-clause-stage c = stage
