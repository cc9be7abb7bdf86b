use Rattle.kern_event.proofs.B09CloseEvent.{enable_serves}
use Rattle.kern_event.proofs.b09_close_event.enable_event.Goals as goal

pub returns-clause-serves : goal.returns-clause-serves
returns-clause-serves c = enable_serves
