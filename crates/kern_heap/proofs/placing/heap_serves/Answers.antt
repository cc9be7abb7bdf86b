use Rattle.kern_heap.proofs.Served.{heap_serves}
use Rattle.kern_heap.proofs.placing.heap_serves.Goals as goal

pub returns : goal.returns
returns c = heap_serves
