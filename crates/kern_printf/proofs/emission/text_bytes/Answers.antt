use Rattle.kern_printf.proofs.TextBytesStage.{stage}
use Rattle.kern_printf.proofs.emission.text_bytes.Goals as goal

pub returns-clause-stage : goal.returns-clause-stage
returns-clause-stage c = stage
