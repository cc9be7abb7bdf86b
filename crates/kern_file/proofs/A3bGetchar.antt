-- getchar meets its stay.
use Rattle.psx_flow.proofs.Kit.{◌%◌, ◌^◌, refl, sym, ap, arith, calls, kernel_words, fair, start, []}
use Rattle.abs_kernel.specs.Answered.{registers_of, answered, waits}
use Rattle.abs_kernel.specs.Getchar.{getchar}
use Rattle.abs_kernel.specs.declared.calls.CallId.TheVariants.{A3B}
use Rattle.abs_kernel.specs.Calls.{call}
use Rattle.kern_stay.specs.Shared.{tree, tested_there}
use Rattle.kern_stay.specs.Doors.{Through, Serves, called_with, begun, most_steps}
use Rattle.kern_stay.proofs.Ending.{low_byte}
use Rattle.kern_stay.proofs.Passing.{answers_now}
use Rattle.kern_stay.proofs.Asking.{none_due, one_due, waits_now, through_ports}
use Rattle.kern_file.specs.declared.places.TheConstants.{GETCHAR}
use Rattle.kern_file.specs.declared.a3b_getchar.TheConstants.{NODES}

pub serves : Serves [] most_steps (call A3B) GETCHAR (tree NODES)
serves s d z m h =
    start (calls kernel_words tested_there) (fair kernel_words tested_there) (tree NODES) GETCHAR (λ _. ⊥) (λ to e. Through (getchar s) most_steps to e) (begun (called_with (registers_of s) d) z m)
    (λ v small. (
      λ none. through_ports (getchar s) (waits s) _ _ 1 most_steps _ _ refl (none_due (waits s) (answered s) v none) (waits_now s most_steps _ (waits s) refl h.out h.holds (omega arith)),
      λ some x few.
          through_ports (getchar s) (answered s (x % 2 ^ 8)) _ _ 2 most_steps _ _ refl (one_due (waits s) (answered s) v x some)
          (answers_now s most_steps _ (answered s (x % 2 ^ 8)) (ap (answered s) (sym (low_byte x))) h.holds (omega arith)),
    ))
