use Rattle.kern_text.proofs.A16Strncat.{serves}
use Rattle.kern_text.proofs.a16_strncat.strncat.Goals as goal

pub returns-clause-serves : goal.returns-clause-serves
returns-clause-serves c = serves
