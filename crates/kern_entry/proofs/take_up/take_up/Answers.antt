use Rattle.kern_entry.proofs.TakingUp.{makes}
use Rattle.kern_entry.proofs.take_up.take_up.Goals as goal

pub returns-clause-makes : goal.returns-clause-makes
returns-clause-makes c = makes
