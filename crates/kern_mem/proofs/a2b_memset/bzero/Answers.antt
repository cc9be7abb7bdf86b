use Rattle.kern_mem.proofs.A2bMemset.{bzero_serves}
use Rattle.kern_mem.proofs.a2b_memset.bzero.Goals as goal

pub returns-clause-serves : goal.returns-clause-serves
returns-clause-serves c = bzero_serves
