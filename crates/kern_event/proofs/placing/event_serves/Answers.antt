use Rattle.kern_event.proofs.Served.{event_serves}
use Rattle.kern_event.proofs.placing.event_serves.Goals as goal

pub returns : goal.returns
returns c = event_serves
