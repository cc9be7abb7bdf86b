use Rattle.kern_text.proofs.A22Strcspn.{serves}
use Rattle.kern_text.proofs.a22_strcspn.strcspn.Goals as goal

pub returns-clause-serves : goal.returns-clause-serves
returns-clause-serves c = serves
