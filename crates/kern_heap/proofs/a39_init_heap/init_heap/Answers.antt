use Rattle.kern_heap.proofs.A39InitHeap.{serves}
use Rattle.kern_heap.proofs.a39_init_heap.init_heap.Goals as goal

pub returns-clause-serves : goal.returns-clause-serves
returns-clause-serves c = serves
