use Rattle.kern_event.proofs.B0aWaitEvent.{serves}
use Rattle.kern_event.proofs.b0a_wait_event.wait_event.Goals as goal

pub returns-clause-serves : goal.returns-clause-serves
returns-clause-serves c = serves
