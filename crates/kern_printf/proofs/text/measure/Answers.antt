use Rattle.kern_printf.proofs.MeasureStage.{stage}
use Rattle.kern_printf.proofs.text.measure.Goals as goal

pub returns-clause-stage : goal.returns-clause-stage
returns-clause-stage c = stage
