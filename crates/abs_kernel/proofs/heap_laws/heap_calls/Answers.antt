use Rattle.abs_kernel.proofs.HeapStays.{calls_make_steps, init_heap_sets, calls_return}
use Rattle.abs_kernel.proofs.Ends.{others_keep_heap}
use Rattle.abs_kernel.proofs.heap_laws.heap_calls.Goals as goal

pub returns : goal.returns
returns c = record { steps = calls_make_steps; sets = init_heap_sets; returns = calls_return; others = others_keep_heap }
