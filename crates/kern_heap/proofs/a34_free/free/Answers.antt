use Rattle.kern_heap.proofs.A34Free.{serves}
use Rattle.kern_heap.proofs.a34_free.free.Goals as goal

pub returns-clause-serves : goal.returns-clause-serves
returns-clause-serves c = serves
