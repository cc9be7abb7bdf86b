use Rattle.kern_entry.proofs.Pushing.{makes}
use Rattle.kern_entry.proofs.push.push.Goals as goal

pub returns-clause-makes : goal.returns-clause-makes
returns-clause-makes c = makes
