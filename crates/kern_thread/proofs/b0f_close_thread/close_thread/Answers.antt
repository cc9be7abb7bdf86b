use Rattle.kern_thread.proofs.B0fCloseThread.{serves}
use Rattle.kern_thread.proofs.b0f_close_thread.close_thread.Goals as goal

pub returns-clause-serves : goal.returns-clause-serves
returns-clause-serves c = serves
