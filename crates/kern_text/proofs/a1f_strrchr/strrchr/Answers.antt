use Rattle.kern_text.proofs.A1fStrrchr.{serves}
use Rattle.kern_text.proofs.a1f_strrchr.strrchr.Goals as goal

pub returns-clause-serves : goal.returns-clause-serves
returns-clause-serves c = serves
