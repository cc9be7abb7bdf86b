-- GetLastError meets its stay.
use Rattle.psx_flow.proofs.Kit.{◌≡◌, refl, sym, ap, arith, word, calls, kernel_words, fair, start, []}
use Rattle.abs_kernel.specs.Answered.{registers_of, answered}
use Rattle.abs_kernel.specs.GetLastError.{get_last_error}
use Rattle.abs_kernel.specs.declared.calls.CallId.TheVariants.{B54}
use Rattle.abs_kernel.specs.Calls.{call}
use Rattle.kern_stay.specs.Shared.{tree, tested_there}
use Rattle.kern_stay.specs.Doors.{Through, Serves, called_with, begun, most_steps}
use Rattle.kern_stay.proofs.Ending.{through, answers}
use Rattle.kern_file.specs.declared.places.TheConstants.{GET_LAST_ERROR}
use Rattle.kern_file.specs.declared.b54_get_last_error.TheConstants.{NODES}

pub serves : Serves [] most_steps (call B54) GET_LAST_ERROR (tree NODES)
serves s d z m h =
    let was : s.errno ≡ word m 0xEA1C = sym h.holds.reads.variables.1.1.1.1.1.1.1.0 in
    start (calls kernel_words tested_there) (fair kernel_words tested_there) (tree NODES) GET_LAST_ERROR (λ _. ⊥) (λ to e. Through (get_last_error s) most_steps to e)
    (begun (called_with (registers_of s) d) z m)
    (through (get_last_error s) most_steps _ _ refl (answers most_steps s _ (get_last_error s) (ap (answered s) was) h.holds (omega arith)))
