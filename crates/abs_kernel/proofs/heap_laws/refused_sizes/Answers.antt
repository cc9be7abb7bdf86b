use Rattle.abs_kernel.proofs.HeapGiven.{malloc_answers_zero}
use Rattle.abs_kernel.proofs.heap_laws.refused_sizes.Goals as goal

pub returns : goal.returns
returns c = malloc_answers_zero
