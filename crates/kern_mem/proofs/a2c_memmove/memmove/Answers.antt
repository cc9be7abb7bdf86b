use Rattle.kern_mem.proofs.A2cMemmove.{serves}
use Rattle.kern_mem.proofs.a2c_memmove.memmove.Goals as goal

pub returns-clause-serves : goal.returns-clause-serves
returns-clause-serves c = serves
