use Rattle.kern_file.proofs.A3ePuts.{serves}
use Rattle.kern_file.proofs.a3e_puts.puts.Goals as goal

pub returns-clause-serves : goal.returns-clause-serves
returns-clause-serves c = serves
