use Rattle.kern_text.proofs.A1aStrncpy.{serves}
use Rattle.kern_text.proofs.a1a_strncpy.strncpy.Goals as goal

pub returns-clause-serves : goal.returns-clause-serves
returns-clause-serves c = serves
