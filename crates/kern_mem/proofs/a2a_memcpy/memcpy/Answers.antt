use Rattle.kern_mem.proofs.A2aMemcpy.{serves}
use Rattle.kern_mem.proofs.a2a_memcpy.memcpy.Goals as goal

pub returns-clause-serves : goal.returns-clause-serves
returns-clause-serves c = serves
