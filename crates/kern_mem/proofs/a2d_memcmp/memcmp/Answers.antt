use Rattle.kern_mem.proofs.A2dMemcmp.{serves}
use Rattle.kern_mem.proofs.a2d_memcmp.memcmp.Goals as goal

pub returns-clause-serves : goal.returns-clause-serves
returns-clause-serves c = serves
