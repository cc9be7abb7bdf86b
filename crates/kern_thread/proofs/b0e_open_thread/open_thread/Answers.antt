use Rattle.kern_thread.proofs.B0eOpenThread.{serves}
use Rattle.kern_thread.proofs.b0e_open_thread.open_thread.Goals as goal

pub returns-clause-serves : goal.returns-clause-serves
returns-clause-serves c = serves
