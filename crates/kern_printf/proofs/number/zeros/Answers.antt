use Rattle.kern_printf.proofs.ZerosStage.{stage}
use Rattle.kern_printf.proofs.number.zeros.Goals as goal

pub returns-clause-stage : goal.returns-clause-stage
returns-clause-stage c = stage
