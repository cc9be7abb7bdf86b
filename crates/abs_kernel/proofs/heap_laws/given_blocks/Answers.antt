use Rattle.abs_kernel.proofs.HeapSteps.{used_are_kept}
use Rattle.abs_kernel.proofs.HeapGiven.{given_is_used, freed_is_unused, realloc_frees, free_undoes}
use Rattle.abs_kernel.proofs.heap_laws.given_blocks.Goals as goal

pub returns : goal.returns
returns c = record { used = given_is_used; kept = used_are_kept; freed = freed_is_unused; replaced = realloc_frees; undone = free_undoes }
