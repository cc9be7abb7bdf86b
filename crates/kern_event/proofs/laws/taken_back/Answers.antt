use Rattle.kern_event.proofs.Lawful.{taken_back}
use Rattle.kern_event.proofs.laws.taken_back.Goals as goal

pub returns : goal.returns
returns c = taken_back
