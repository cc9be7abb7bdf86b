use Rattle.kern_text.proofs.A1bStrlen.{serves}
use Rattle.kern_text.proofs.a1b_strlen.strlen.Goals as goal

pub returns-clause-serves : goal.returns-clause-serves
returns-clause-serves c = serves
