use Rattle.kern_timer.proofs.Lawful.{enables, disables}
use Rattle.kern_timer.proofs.laws.lines_are_masked.Goals as goal

pub returns-clause-enables : goal.returns-clause-enables
returns-clause-enables c = enables

pub returns-clause-disables : goal.returns-clause-disables
returns-clause-disables c = disables
