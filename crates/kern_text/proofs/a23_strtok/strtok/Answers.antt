use Rattle.kern_text.proofs.A23Strtok.{serves}
use Rattle.kern_text.proofs.a23_strtok.strtok.Goals as goal

pub returns-clause-serves : goal.returns-clause-serves
returns-clause-serves c = serves
