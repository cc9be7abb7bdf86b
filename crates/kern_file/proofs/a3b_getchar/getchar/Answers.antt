use Rattle.kern_file.proofs.A3bGetchar.{serves}
use Rattle.kern_file.proofs.a3b_getchar.getchar.Goals as goal

pub returns-clause-serves : goal.returns-clause-serves
returns-clause-serves c = serves
