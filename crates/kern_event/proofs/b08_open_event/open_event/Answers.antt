use Rattle.kern_event.proofs.B08OpenEvent.{serves}
use Rattle.kern_event.proofs.b08_open_event.open_event.Goals as goal

pub returns-clause-serves : goal.returns-clause-serves
returns-clause-serves c = serves
