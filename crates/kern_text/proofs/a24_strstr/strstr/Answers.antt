use Rattle.kern_text.proofs.A24Strstr.{serves}
use Rattle.kern_text.proofs.a24_strstr.strstr.Goals as goal

pub returns-clause-serves : goal.returns-clause-serves
returns-clause-serves c = serves
