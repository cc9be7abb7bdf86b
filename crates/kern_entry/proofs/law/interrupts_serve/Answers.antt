use Rattle.kern_entry.proofs.InterruptArrives.{interrupts_arrive}
use Rattle.kern_entry.proofs.TasksServe.{interrupt_serves, begun_work_serves}
use Rattle.kern_entry.proofs.law.interrupts_serve.Goals as goal

pub returns : goal.returns
returns c = record { arrive = interrupts_arrive; listing = interrupt_serves; tasks = begun_work_serves }
