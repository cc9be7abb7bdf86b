use Rattle.kern_text.proofs.A15Strcat.{serves}
use Rattle.kern_text.proofs.a15_strcat.strcat.Goals as goal

pub returns-clause-serves : goal.returns-clause-serves
returns-clause-serves c = serves
