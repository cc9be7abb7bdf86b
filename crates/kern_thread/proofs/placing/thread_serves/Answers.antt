use Rattle.kern_thread.proofs.Served.{thread_serves}
use Rattle.kern_thread.proofs.placing.thread_serves.Goals as goal

pub returns : goal.returns
returns c = thread_serves
