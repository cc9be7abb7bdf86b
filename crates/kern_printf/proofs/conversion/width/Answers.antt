use Rattle.kern_printf.proofs.WidthStage.{stage}
use Rattle.kern_printf.proofs.conversion.width.Goals as goal

pub returns-clause-stage : goal.returns-clause-stage
returns-clause-stage c = stage
