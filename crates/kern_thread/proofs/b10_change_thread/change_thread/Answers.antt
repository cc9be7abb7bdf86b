use Rattle.kern_thread.proofs.B10ChangeThread.{serves}
use Rattle.kern_thread.proofs.b10_change_thread.change_thread.Goals as goal

pub returns-clause-serves : goal.returns-clause-serves
returns-clause-serves c = serves
