use Rattle.kern_text.proofs.A18Strncmp.{serves}
use Rattle.kern_text.proofs.a18_strncmp.strncmp.Goals as goal

pub returns-clause-serves : goal.returns-clause-serves
returns-clause-serves c = serves
