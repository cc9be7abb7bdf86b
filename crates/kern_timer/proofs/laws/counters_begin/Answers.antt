use Rattle.kern_timer.proofs.Lawful.{begins, restarts}
use Rattle.kern_timer.proofs.laws.counters_begin.Goals as goal

pub returns-clause-begins : goal.returns-clause-begins
returns-clause-begins c = begins

pub returns-clause-restarts : goal.returns-clause-restarts
returns-clause-restarts c = restarts
