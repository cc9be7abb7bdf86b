use Rattle.kern_text.proofs.A1eStrchr.{serves}
use Rattle.kern_text.proofs.a1e_strchr.strchr.Goals as goal

pub returns-clause-serves : goal.returns-clause-serves
returns-clause-serves c = serves
