use Rattle.kern_text.proofs.A20Strpbrk.{serves}
use Rattle.kern_text.proofs.a20_strpbrk.strpbrk.Goals as goal

pub returns-clause-serves : goal.returns-clause-serves
returns-clause-serves c = serves
