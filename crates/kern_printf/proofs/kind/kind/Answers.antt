use Rattle.kern_printf.proofs.KindStage.{stage}
use Rattle.kern_printf.proofs.kind.kind.Goals as goal

pub returns-clause-stage : goal.returns-clause-stage
returns-clause-stage c = stage
