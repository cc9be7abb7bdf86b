use Rattle.kern_timer.proofs.B06RestartTimer.{serves}
use Rattle.kern_timer.proofs.b06_restart_timer.restart_timer.Goals as goal

pub returns-clause-serves : goal.returns-clause-serves
returns-clause-serves c = serves
