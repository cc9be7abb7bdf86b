use Rattle.kern_printf.proofs.NullBytesStage.{stage}
use Rattle.kern_printf.proofs.emission.null_bytes.Goals as goal

pub returns-clause-stage : goal.returns-clause-stage
returns-clause-stage c = stage
