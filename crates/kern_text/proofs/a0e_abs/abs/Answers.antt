use Rattle.kern_text.proofs.A0eAbs.{serves}
use Rattle.kern_text.proofs.a0e_abs.abs.Goals as goal

pub returns-clause-serves : goal.returns-clause-serves
returns-clause-serves c = serves
