use Rattle.kern_heap.proofs.A37Calloc.{serves}
use Rattle.kern_heap.proofs.a37_calloc.calloc.Goals as goal

pub returns-clause-serves : goal.returns-clause-serves
returns-clause-serves c = serves
