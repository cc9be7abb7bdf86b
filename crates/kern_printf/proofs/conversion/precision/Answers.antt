use Rattle.kern_printf.proofs.PrecisionStage.{stage}
use Rattle.kern_printf.proofs.conversion.precision.Goals as goal

pub returns-clause-stage : goal.returns-clause-stage
returns-clause-stage c = stage
