use Rattle.kern_mem.proofs.A13Setjmp.{serves}
use Rattle.kern_mem.proofs.a13_setjmp.setjmp.Goals as goal

pub returns-clause-serves : goal.returns-clause-serves
returns-clause-serves c = serves
