use Rattle.kern_timer.proofs.B02InitTimer.{serves}
use Rattle.kern_timer.proofs.b02_init_timer.init_timer.Goals as goal

pub returns-clause-serves : goal.returns-clause-serves
returns-clause-serves c = serves
