use Rattle.kern_printf.proofs.LeftStage.{stage}
use Rattle.kern_printf.proofs.padding.left.Goals as goal

pub returns-clause-stage : goal.returns-clause-stage
returns-clause-stage c = stage
