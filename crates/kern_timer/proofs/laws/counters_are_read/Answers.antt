use Rattle.kern_timer.proofs.Lawful.{gets}
use Rattle.kern_timer.proofs.laws.counters_are_read.Goals as goal

pub returns : goal.returns
returns c = gets
