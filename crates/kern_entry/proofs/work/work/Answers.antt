use Rattle.kern_entry.proofs.TasksDone.{makes}
use Rattle.kern_entry.proofs.work.work.Goals as goal

pub returns-clause-makes : goal.returns-clause-makes
returns-clause-makes c = makes
