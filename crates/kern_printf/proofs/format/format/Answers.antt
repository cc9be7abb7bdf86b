use Rattle.kern_printf.proofs.FormatStage.{stage}
use Rattle.kern_printf.proofs.format.format.Goals as goal

pub returns-clause-stage : goal.returns-clause-stage
returns-clause-stage c = stage
