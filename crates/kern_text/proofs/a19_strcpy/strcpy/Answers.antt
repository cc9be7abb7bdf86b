use Rattle.kern_text.proofs.A19Strcpy.{serves}
use Rattle.kern_text.proofs.a19_strcpy.strcpy.Goals as goal

pub returns-clause-serves : goal.returns-clause-serves
returns-clause-serves c = serves
