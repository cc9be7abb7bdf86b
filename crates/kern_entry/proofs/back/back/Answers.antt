use Rattle.kern_entry.proofs.GoingBack.{serves}
use Rattle.kern_entry.proofs.back.back.Goals as goal

pub returns-clause-serves : goal.returns-clause-serves
returns-clause-serves c = serves
