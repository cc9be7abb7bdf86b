use Rattle.kern_mem.proofs.A30Srand.{serves}
use Rattle.kern_mem.proofs.a30_srand.srand.Goals as goal

pub returns-clause-serves : goal.returns-clause-serves
returns-clause-serves c = serves
