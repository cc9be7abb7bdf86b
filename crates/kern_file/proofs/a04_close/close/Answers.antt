use Rattle.kern_file.proofs.A04Close.{serves}
use Rattle.kern_file.proofs.a04_close.close.Goals as goal

pub returns-clause-serves : goal.returns-clause-serves
returns-clause-serves c = serves
