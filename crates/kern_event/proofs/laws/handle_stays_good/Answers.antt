use Rattle.kern_event.proofs.Lawful.{opens, stays_good}
use Rattle.kern_event.proofs.laws.handle_stays_good.Goals as goal

pub returns-clause-opened : goal.returns-clause-opened
returns-clause-opened c = opens

pub returns-clause-kept : goal.returns-clause-kept
returns-clause-kept c = stays_good
