use Rattle.kern_entry.proofs.Delivers.{serves}
use Rattle.kern_entry.proofs.deliver.deliver.Goals as goal

pub returns-clause-serves : goal.returns-clause-serves
returns-clause-serves c = serves
