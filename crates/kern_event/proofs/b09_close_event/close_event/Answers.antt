use Rattle.kern_event.proofs.B09CloseEvent.{serves}
use Rattle.kern_event.proofs.b09_close_event.close_event.Goals as goal

pub returns-clause-serves : goal.returns-clause-serves
returns-clause-serves c = serves
