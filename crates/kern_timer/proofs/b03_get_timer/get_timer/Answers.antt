use Rattle.kern_timer.proofs.B03GetTimer.{serves}
use Rattle.kern_timer.proofs.b03_get_timer.get_timer.Goals as goal

pub returns-clause-serves : goal.returns-clause-serves
returns-clause-serves c = serves
