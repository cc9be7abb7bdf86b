use Rattle.kern_printf.proofs.ByteStage.{stage}
use Rattle.kern_printf.proofs.number.byte.Goals as goal

pub returns-clause-stage : goal.returns-clause-stage
returns-clause-stage c = stage
