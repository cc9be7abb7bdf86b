use Rattle.abs_kernel.proofs.HeapSteps.{sizes_sum, free_is_joined, used_lie_inside, used_lie_apart}
use Rattle.abs_kernel.proofs.heap_laws.heap_blocks.Goals as goal

pub returns : goal.returns
returns c = record { sizes = sizes_sum; joined = free_is_joined; inside = used_lie_inside; apart = used_lie_apart }
