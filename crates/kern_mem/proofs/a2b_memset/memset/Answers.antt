use Rattle.kern_mem.proofs.A2bMemset.{serves}
use Rattle.kern_mem.proofs.a2b_memset.memset.Goals as goal

pub returns-clause-serves : goal.returns-clause-serves
returns-clause-serves c = serves
