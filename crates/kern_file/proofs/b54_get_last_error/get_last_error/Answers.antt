use Rattle.kern_file.proofs.B54GetLastError.{serves}
use Rattle.kern_file.proofs.b54_get_last_error.get_last_error.Goals as goal

pub returns-clause-serves : goal.returns-clause-serves
returns-clause-serves c = serves
