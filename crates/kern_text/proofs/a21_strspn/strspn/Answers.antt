use Rattle.kern_text.proofs.A21Strspn.{serves}
use Rattle.kern_text.proofs.a21_strspn.strspn.Goals as goal

pub returns-clause-serves : goal.returns-clause-serves
returns-clause-serves c = serves
