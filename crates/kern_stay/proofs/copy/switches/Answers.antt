use Rattle.kern_stay.proofs.Switching.{switches}
use Rattle.kern_stay.proofs.copy.switches.Goals as goal

pub returns : goal.returns
returns c = switches
