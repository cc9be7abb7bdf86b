use Rattle.kern_timer.proofs.B04EnableTimerIrq.{disable_serves}
use Rattle.kern_timer.proofs.b04_enable_timer_irq.disable_timer_irq.Goals as goal

pub returns-clause-serves : goal.returns-clause-serves
returns-clause-serves c = disable_serves
