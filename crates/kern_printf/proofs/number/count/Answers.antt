use Rattle.kern_printf.proofs.CountStage.{stage}
use Rattle.kern_printf.proofs.number.count.Goals as goal

pub returns-clause-stage : goal.returns-clause-stage
returns-clause-stage c = stage
