use Rattle.kern_timer.proofs.Served.{timer_serves}
use Rattle.kern_timer.proofs.placing.timer_serves.Goals as goal

pub returns : goal.returns
returns c = timer_serves
