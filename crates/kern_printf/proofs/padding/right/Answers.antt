use Rattle.kern_printf.proofs.RightStage.{stage}
use Rattle.kern_printf.proofs.padding.right.Goals as goal

pub returns-clause-stage : goal.returns-clause-stage
returns-clause-stage c = stage
