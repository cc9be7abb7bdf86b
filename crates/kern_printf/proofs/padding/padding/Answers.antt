use Rattle.kern_printf.proofs.PaddingStage.{stage}
use Rattle.kern_printf.proofs.padding.padding.Goals as goal

pub returns-clause-stage : goal.returns-clause-stage
returns-clause-stage c = stage
