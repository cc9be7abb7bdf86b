use Rattle.kern_printf.proofs.NullTextStage.{stage}
use Rattle.kern_printf.proofs.text.null_text.Goals as goal

pub returns-clause-stage : goal.returns-clause-stage
returns-clause-stage c = stage
