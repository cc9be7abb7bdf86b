use Rattle.kern_printf.proofs.PrintfStage.{stage}
use Rattle.kern_printf.proofs.format.printf.Goals as goal

pub returns-clause-stage : goal.returns-clause-stage
returns-clause-stage c = stage
