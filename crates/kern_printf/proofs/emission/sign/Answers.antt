use Rattle.kern_printf.proofs.SignStage.{stage}
use Rattle.kern_printf.proofs.emission.sign.Goals as goal

pub returns-clause-stage : goal.returns-clause-stage
returns-clause-stage c = stage
