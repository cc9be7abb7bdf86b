use Rattle.kern_text.proofs.A17Strcmp.{serves}
use Rattle.kern_text.proofs.a17_strcmp.strcmp.Goals as goal

pub returns-clause-serves : goal.returns-clause-serves
returns-clause-serves c = serves
