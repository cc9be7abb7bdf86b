use Rattle.kern_event.proofs.B0bTestEvent.{serves}
use Rattle.kern_event.proofs.b0b_test_event.test_event.Goals as goal

pub returns-clause-serves : goal.returns-clause-serves
returns-clause-serves c = serves
