use Rattle.kern_text.proofs.A26Tolower.{serves}
use Rattle.kern_text.proofs.a26_tolower.tolower.Goals as goal

pub returns-clause-serves : goal.returns-clause-serves
returns-clause-serves c = serves
