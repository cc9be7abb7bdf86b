use Rattle.kern_printf.proofs.NumberStage.{stage}
use Rattle.kern_printf.proofs.number.number.Goals as goal

pub returns-clause-stage : goal.returns-clause-stage
returns-clause-stage c = stage
