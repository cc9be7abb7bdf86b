use Rattle.kern_printf.proofs.FillStage.{stage}
use Rattle.kern_printf.proofs.number.fill.Goals as goal

pub returns-clause-stage : goal.returns-clause-stage
returns-clause-stage c = stage
