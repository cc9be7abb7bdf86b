-- srand meets its stay.
use Rattle.psx_flow.proofs.Kit.{ℕ, refl, arith, calls, kernel_words, fair, start, []}
use Rattle.abs_kernel.specs.Answered.{registers_of}
use Rattle.abs_kernel.specs.Rand.{with_random}
use Rattle.abs_kernel.specs.Srand.{srand}
use Rattle.abs_kernel.specs.declared.calls.CallId.TheVariants.{A30}
use Rattle.abs_kernel.specs.Calls.{call}
use Rattle.kern_stay.specs.Shared.{tree, tested_there}
use Rattle.kern_stay.specs.Doors.{Through, Serves, called_with, begun, most_steps}
use Rattle.kern_stay.proofs.Holding.{holds_random}
use Rattle.kern_stay.proofs.Ending.{through, answers}
use Rattle.kern_mem.specs.declared.places.TheConstants.{SRAND}
use Rattle.kern_mem.specs.declared.a30_srand.TheConstants.{NODES}

pub serves : Serves [] most_steps (call A30) SRAND (tree NODES)
serves s d z m h =
    let v : ℕ = (registers_of s).r4 in
    start (calls kernel_words tested_there) (fair kernel_words tested_there) (tree NODES) SRAND (λ _. ⊥) (λ to e. Through (srand s) most_steps to e) (begun (called_with (registers_of s) d) z m)
    (through (srand s) most_steps _ _ refl (answers most_steps (with_random s v) _ (srand s) refl (holds_random s h.valid m h.holds v) (omega arith)))
