use Rattle.kern_file.proofs.A09Putc.{serves}
use Rattle.kern_file.proofs.a09_putc.putc.Goals as goal

pub returns-clause-serves : goal.returns-clause-serves
returns-clause-serves c = serves
