use Rattle.kern_heap.proofs.A38Realloc.{serves}
use Rattle.kern_heap.proofs.a38_realloc.realloc.Goals as goal

pub returns-clause-serves : goal.returns-clause-serves
returns-clause-serves c = serves
