use Rattle.kern_text.proofs.A25Toupper.{serves}
use Rattle.kern_text.proofs.a25_toupper.toupper.Goals as goal

pub returns-clause-serves : goal.returns-clause-serves
returns-clause-serves c = serves
