use Rattle.kern_printf.proofs.TextStage.{stage}
use Rattle.kern_printf.proofs.text.text.Goals as goal

pub returns-clause-stage : goal.returns-clause-stage
returns-clause-stage c = stage
