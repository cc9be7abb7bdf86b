use Rattle.kern_event.proofs.B07DeliverEvent.{serves}
use Rattle.kern_event.proofs.b07_deliver_event.deliver_event.Goals as goal

pub returns-clause-serves : goal.returns-clause-serves
returns-clause-serves c = serves
