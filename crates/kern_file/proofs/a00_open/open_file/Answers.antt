use Rattle.kern_file.proofs.A00Open.{serves}
use Rattle.kern_file.proofs.a00_open.open_file.Goals as goal

pub returns-clause-serves : goal.returns-clause-serves
returns-clause-serves c = serves
