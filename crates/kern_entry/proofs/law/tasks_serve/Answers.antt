use Rattle.kern_entry.proofs.TasksServe.{work_serves, deliver_serves}
use Rattle.kern_entry.proofs.law.tasks_serve.Goals as goal

pub returns : goal.returns
returns c = record { work = work_serves; deliver = deliver_serves }
