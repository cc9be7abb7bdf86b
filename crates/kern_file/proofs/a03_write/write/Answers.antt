use Rattle.kern_file.proofs.A03Write.{serves}
use Rattle.kern_file.proofs.a03_write.write.Goals as goal

pub returns-clause-serves : goal.returns-clause-serves
returns-clause-serves c = serves
