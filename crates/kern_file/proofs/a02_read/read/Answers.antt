use Rattle.kern_file.proofs.A02Read.{serves}
use Rattle.kern_file.proofs.a02_read.read.Goals as goal

pub returns-clause-serves : goal.returns-clause-serves
returns-clause-serves c = serves
