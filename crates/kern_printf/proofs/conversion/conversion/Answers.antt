use Rattle.kern_printf.proofs.ConversionStage.{stage}
use Rattle.kern_printf.proofs.conversion.conversion.Goals as goal

pub returns-clause-stage : goal.returns-clause-stage
returns-clause-stage c = stage
