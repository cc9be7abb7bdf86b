use Rattle.kern_mem.proofs.A2aMemcpy.{bcopy_serves}
use Rattle.kern_mem.proofs.a2a_memcpy.bcopy.Goals as goal

pub returns-clause-serves : goal.returns-clause-serves
returns-clause-serves c = bcopy_serves
