use Rattle.kern_heap.proofs.A33Malloc.{serves}
use Rattle.kern_heap.proofs.a33_malloc.malloc.Goals as goal

pub returns-clause-serves : goal.returns-clause-serves
returns-clause-serves c = serves
