use Rattle.kern_text.proofs.A0dStrtol.{serves}
use Rattle.kern_text.proofs.a0d_strtol.strtol.Goals as goal

pub returns-clause-serves : goal.returns-clause-serves
returns-clause-serves c = serves
