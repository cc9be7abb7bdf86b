use Rattle.kern_thread.proofs.B17ReturnFromException.{serves}
use Rattle.kern_thread.proofs.b17_return_from_exception.return_from_exception.Goals as goal

pub returns-clause-serves : goal.returns-clause-serves
returns-clause-serves c = serves
