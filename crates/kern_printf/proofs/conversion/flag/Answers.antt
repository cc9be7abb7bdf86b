use Rattle.kern_printf.proofs.FlagStage.{stage}
use Rattle.kern_printf.proofs.conversion.flag.Goals as goal

pub returns-clause-stage : goal.returns-clause-stage
returns-clause-stage c = stage
