-- FlushCache meets its stay.
use Rattle.psx_flow.proofs.Kit.{refl, arith, calls, kernel_words, fair, start, []}
use Rattle.abs_kernel.specs.Answered.{registers_of}
use Rattle.abs_kernel.specs.FlushCache.{flush_cache}
use Rattle.abs_kernel.specs.declared.calls.CallId.TheVariants.{A44}
use Rattle.abs_kernel.specs.Calls.{call}
use Rattle.kern_stay.specs.Shared.{tree, tested_there}
use Rattle.kern_stay.specs.Doors.{Through, Serves, called_with, begun, most_steps}
use Rattle.kern_stay.proofs.Ending.{through, answers}
use Rattle.kern_mem.specs.declared.places.TheConstants.{FLUSH_CACHE}
use Rattle.kern_mem.specs.declared.a44_flush_cache.TheConstants.{NODES}

pub serves : Serves [] most_steps (call A44) FLUSH_CACHE (tree NODES)
serves s d z m h =
    start (calls kernel_words tested_there) (fair kernel_words tested_there) (tree NODES) FLUSH_CACHE (λ _. ⊥) (λ to e. Through (flush_cache s) most_steps to e)
    (begun (called_with (registers_of s) d) z m)
    (through (flush_cache s) most_steps _ _ refl (answers most_steps s _ (flush_cache s) refl h.holds (omega arith)))
