use Rattle.abs_kernel.proofs.HeapBytes.{calloc_clears, realloc_copies}
use Rattle.abs_kernel.proofs.heap_laws.block_bytes.Goals as goal

pub returns : goal.returns
returns c = record { cleared = calloc_clears; copied = realloc_copies }
