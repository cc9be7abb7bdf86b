use Rattle.kern_printf.proofs.ArgumentStage.{stage}
use Rattle.kern_printf.proofs.kind.argument.Goals as goal

pub returns-clause-stage : goal.returns-clause-stage
returns-clause-stage c = stage
