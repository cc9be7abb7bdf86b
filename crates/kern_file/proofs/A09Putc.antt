-- putc meets its stay.
use Rattle.psx_flow.proofs.Kit.{◌≡◌, ℕ, ◌%◌, ◌^◌, ◌<◌, inl, refl, sym, ap, ◌∙◌, arith, calls, kernel_words, fair, start, true, false, []}
use Rattle.std.specs.Prelude.{Bool, nat_lt, if◌then◌else◌}
use Rattle.psx_cpu.specs.Words.{truth}
use Rattle.abs_kernel.specs.Stay.{Stay, Write}
use Rattle.abs_kernel.specs.Answered.{registers_of, answered}
use Rattle.abs_kernel.specs.Files.{file, is_writable, with_errno, refuses, bad_file}
use Rattle.abs_kernel.specs.Putc.{putc}
use Rattle.abs_kernel.specs.declared.calls.CallId.TheVariants.{A09}
use Rattle.abs_kernel.specs.Calls.{call}
use Rattle.kern_stay.specs.Shared.{tree, tested_there}
use Rattle.kern_stay.specs.Doors.{Through, Serves, called_with, begun, most_steps}
use Rattle.kern_stay.proofs.Ending.{low_byte, through, through_as, answers}
use Rattle.kern_stay.proofs.Passing.{answers_now}
use Rattle.kern_stay.proofs.RoomGiven.{true_then, false_then}
use Rattle.kern_file.specs.declared.places.TheConstants.{PUTC}
use Rattle.kern_file.specs.declared.a09_putc.TheConstants.{NODES}
use Rattle.kern_file.proofs.FilesHeld.{at_file, mode_is, none_from_16, writable, unwritable, holds_errno}

pub serves : Serves [] most_steps (call A09) PUTC (tree NODES)
serves s d z m h =
    let c : ℕ = (registers_of s).r4 in
    let f : ℕ = (registers_of s).r5 in
    let sent : Stay = Write (c % 2 ^ 8) (answered s (c % 2 ^ 8)) in
    let by : (b : Bool) → is_writable (file s f) ≡ b → putc s ≡ (if b then sent else refuses s bad_file) = λ b e. ap (λ b. if b then sent else refuses s bad_file) e in
    let kept = holds_errno s h.valid m h.holds bad_file in
    start (calls kernel_words tested_there) (fair kernel_words tested_there) (tree NODES) PUTC (λ _. ⊥) (λ to e. Through (putc s) most_steps to e) (begun (called_with (registers_of s) d) z m) (
      λ some.
          let lt : f < 16 = true_then f 16 some in
          let a = at_file f lt in
          let mode = mode_is s h.valid m h.holds f lt in
          rw (a.here, a.sort, a.place) (
            λ w.
                through_as (putc s) sent most_steps _ _ (by true (writable (file s f) (ap (λ x. truth (nat_lt x 2)) (sym mode) ∙ w)))
                (record {
                  told = _;
                  ports = refl;
                  follows = (tt, (refl, refl));
                  ends = inl (answers_now s most_steps _ (answered s (c % 2 ^ 8)) (ap (answered s) (sym (low_byte c))) h.holds (omega arith));
                }),
            λ n.
                let is = by false (unwritable (file s f) (λ q. n (ap (λ x. truth (nat_lt x 2)) mode ∙ q))) in
                through (putc s) most_steps _ _ refl (answers most_steps (with_errno s bad_file) _ (putc s) is kept (omega arith)),
          ),
      λ none.
          let is = by false (ap is_writable (none_from_16 s h.valid f (false_then f 16 none))) in
          through (putc s) most_steps _ _ refl (answers most_steps (with_errno s bad_file) _ (putc s) is kept (omega arith)),
    )
