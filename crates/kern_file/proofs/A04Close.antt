-- close meets its stay.
use Rattle.psx_flow.proofs.Kit.{◌≡◌, ℕ, ◌<◌, refl, sym, ap, ◌∙◌, arith, calls, kernel_words, fair, start, true, false, []}
use Rattle.std.specs.Prelude.{Bool, None, is_some, if◌then◌else◌}
use Rattle.abs_kernel.specs.Stay.{Stay}
use Rattle.abs_kernel.specs.Answered.{registers_of, answered}
use Rattle.abs_kernel.specs.Files.{file, with_file, with_errno, refuses, bad_file}
use Rattle.abs_kernel.specs.Close.{close}
use Rattle.abs_kernel.specs.declared.calls.CallId.TheVariants.{A04}
use Rattle.abs_kernel.specs.Calls.{call}
use Rattle.kern_stay.specs.Shared.{tree, tested_there}
use Rattle.kern_stay.specs.Doors.{Through, Serves, called_with, begun, most_steps}
use Rattle.kern_stay.proofs.Ending.{through, answers}
use Rattle.kern_stay.proofs.RoomGiven.{true_then, false_then}
use Rattle.kern_file.specs.declared.places.TheConstants.{CLOSE}
use Rattle.kern_file.specs.declared.a04_close.TheConstants.{NODES}
use Rattle.kern_file.proofs.FilesHeld.{at_file, mode_is, mode_fits, none_from_16, is_closed, is_open, holds_errno, holds_file}

pub serves : Serves [] most_steps (call A04) CLOSE (tree NODES)
serves s d z m h =
    let f : ℕ = (registers_of s).r4 in
    let closed : Stay = answered (with_file s f None) f in
    let by : (b : Bool) → is_some (file s f) ≡ b → close s ≡ (if b then closed else refuses s bad_file) = λ b e. ap (λ b. if b then closed else refuses s bad_file) e in
    let kept = holds_errno s h.valid m h.holds bad_file in
    start (calls kernel_words tested_there) (fair kernel_words tested_there) (tree NODES) CLOSE (λ _. ⊥) (λ to e. Through (close s) most_steps to e) (begun (called_with (registers_of s) d) z m) (
      λ some.
          let lt : f < 16 = true_then f 16 some in
          let a = at_file f lt in
          let mode = mode_is s h.valid m h.holds f lt in
          rw (a.here, a.sort, a.place) (
            λ is_one.
                rw (a.here, a.sort, a.place) (
                through (close s) most_steps _ _ refl (answers most_steps (with_file s f None) _ (close s) (by true (is_open (file s f) (λ q. is_one (mode ∙ q))))
                (holds_file s h.valid m h.holds f 0 None lt tt refl) (omega arith))
                ),
            λ none.
                let is = by false (ap is_some (is_closed (file s f) (mode_fits s h.valid f lt) (sym mode ∙ none))) in
                through (close s) most_steps _ _ refl (answers most_steps (with_errno s bad_file) _ (close s) is kept (omega arith)),
          ),
      λ none.
          let is = by false (ap is_some (none_from_16 s h.valid f (false_then f 16 none))) in
          through (close s) most_steps _ _ refl (answers most_steps (with_errno s bad_file) _ (close s) is kept (omega arith)),
    )
