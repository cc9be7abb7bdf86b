use Rattle.kern_event.proofs.B20UndeliverEvent.{serves}
use Rattle.kern_event.proofs.b20_undeliver_event.undeliver_event.Goals as goal

pub returns-clause-serves : goal.returns-clause-serves
returns-clause-serves c = serves
