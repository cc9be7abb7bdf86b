use Rattle.kern_event.proofs.Lawful.{ready_once}
use Rattle.kern_event.proofs.laws.ready_once.Goals as goal

pub returns : goal.returns
returns c = ready_once
