-- getc meets its stay.
use Rattle.psx_flow.proofs.Kit.{◌≡◌, ℕ, ◌*◌, ◌%◌, ◌^◌, ◌<◌, refl, sym, ap, ◌∙◌, arith, calls, kernel_words, fair, start, true, false, []}
use Rattle.std.specs.Prelude.{Bool, if◌then◌else◌}
use Rattle.abs_kernel.specs.Answered.{registers_of, answered, waits}
use Rattle.abs_kernel.specs.Files.{file, is_readable, with_errno, refuses, bad_file}
use Rattle.abs_kernel.specs.Getchar.{getchar}
use Rattle.abs_kernel.specs.Getc.{getc}
use Rattle.abs_kernel.specs.declared.calls.CallId.TheVariants.{A08}
use Rattle.abs_kernel.specs.Calls.{call}
use Rattle.kern_stay.specs.Shared.{tree, tested_there}
use Rattle.kern_stay.specs.Doors.{Through, Serves, called_with, begun, most_steps}
use Rattle.kern_stay.proofs.Ending.{low_byte, through, answers}
use Rattle.kern_stay.proofs.Passing.{answers_now}
use Rattle.kern_stay.proofs.RoomGiven.{true_then, false_then}
use Rattle.kern_stay.proofs.Asking.{begins_is, none_due, one_due, waits_now, through_ports}
use Rattle.kern_file.specs.declared.places.TheConstants.{GETC}
use Rattle.kern_file.specs.declared.a08_getc.TheConstants.{NODES}
use Rattle.kern_file.proofs.FilesHeld.{at_file, mode_is, none_from_16, holds_errno}
use Rattle.kern_file.proofs.Readable.{readable, unreadable}

pub serves : Serves [] most_steps (call A08) GETC (tree NODES)
serves s d z m h =
    let f : ℕ = (registers_of s).r4 in
    let by : (b : Bool) → is_readable (file s f) ≡ b → getc s ≡ (if b then getchar s else refuses s bad_file) = λ b e. ap (λ b. if b then getchar s else refuses s bad_file) e in
    let kept = holds_errno s h.valid m h.holds bad_file in
    start (calls kernel_words tested_there) (fair kernel_words tested_there) (tree NODES) GETC (λ _. ⊥) (λ to e. Through (getc s) most_steps to e) (begun (called_with (registers_of s) d) z m) (
      λ some.
          let lt : f < 16 = true_then f 16 some in
          let a = at_file f lt in
          let mode = mode_is s h.valid m h.holds f lt in
          rw (a.here, a.sort, a.place) (
            λ odd v small.
                let is : getc s ≡ getchar s = by true (readable (file s f) (λ q. odd (ap (λ x. x * 2 ^ 31 % 2 ^ 32) mode ∙ q))) in (
                  λ none. through_ports (getc s) (waits s) _ _ 1 most_steps _ _ refl (begins_is (getc s) _ _ _ 1 is (none_due (waits s) (answered s) v none))
                      (waits_now s most_steps _ (waits s) refl h.out h.holds (omega arith)),
                  λ due x few.
                      through_ports (getc s) (answered s (x % 2 ^ 8)) _ _ 2 most_steps _ _ refl (begins_is (getc s) _ _ _ 2 is (one_due (waits s) (answered s) v x due))
                      (answers_now s most_steps _ (answered s (x % 2 ^ 8)) (ap (answered s) (sym (low_byte x))) h.holds (omega arith)),
                ),
            λ even. through (getc s) most_steps _ _ refl (answers most_steps (with_errno s bad_file) _ (getc s)
                (by false (unreadable (file s f) (sym (ap (λ x. x * 2 ^ 31 % 2 ^ 32) mode) ∙ even))) kept (omega arith)),
          ),
      λ none. through (getc s) most_steps _ _ refl (answers most_steps (with_errno s bad_file) _ (getc s) (by false (ap is_readable (none_from_16 s h.valid f (false_then f 16 none)))) kept
          (omega arith)),
    )
