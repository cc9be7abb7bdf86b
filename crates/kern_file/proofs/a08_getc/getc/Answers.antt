use Rattle.kern_file.proofs.A08Getc.{serves}
use Rattle.kern_file.proofs.a08_getc.getc.Goals as goal

pub returns-clause-serves : goal.returns-clause-serves
returns-clause-serves c = serves
