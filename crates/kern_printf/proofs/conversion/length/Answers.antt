use Rattle.kern_printf.proofs.LengthStage.{stage}
use Rattle.kern_printf.proofs.conversion.length.Goals as goal

pub returns-clause-stage : goal.returns-clause-stage
returns-clause-stage c = stage
