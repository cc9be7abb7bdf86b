use Rattle.kern_entry.proofs.Interrupting.{serves}
use Rattle.kern_entry.proofs.interrupts.interrupts.Goals as goal

pub returns-clause-serves : goal.returns-clause-serves
returns-clause-serves c = serves
