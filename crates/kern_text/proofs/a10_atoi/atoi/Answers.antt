use Rattle.kern_text.proofs.A10Atoi.{serves}
use Rattle.kern_text.proofs.a10_atoi.atoi.Goals as goal

pub returns-clause-serves : goal.returns-clause-serves
returns-clause-serves c = serves
