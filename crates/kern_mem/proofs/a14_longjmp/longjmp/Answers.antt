use Rattle.kern_mem.proofs.A14Longjmp.{serves}
use Rattle.kern_mem.proofs.a14_longjmp.longjmp.Goals as goal

pub returns-clause-serves : goal.returns-clause-serves
returns-clause-serves c = serves
