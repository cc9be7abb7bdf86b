use Rattle.kern_mem.proofs.A2eMemchr.{serves}
use Rattle.kern_mem.proofs.a2e_memchr.memchr.Goals as goal

pub returns-clause-serves : goal.returns-clause-serves
returns-clause-serves c = serves
