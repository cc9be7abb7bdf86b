use Rattle.kern_file.proofs.A3cPutchar.{serves}
use Rattle.kern_file.proofs.a3c_putchar.putchar.Goals as goal

pub returns-clause-serves : goal.returns-clause-serves
returns-clause-serves c = serves
