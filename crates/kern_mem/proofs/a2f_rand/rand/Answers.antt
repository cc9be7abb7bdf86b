use Rattle.kern_mem.proofs.A2fRand.{serves}
use Rattle.kern_mem.proofs.a2f_rand.rand.Goals as goal

pub returns-clause-serves : goal.returns-clause-serves
returns-clause-serves c = serves
