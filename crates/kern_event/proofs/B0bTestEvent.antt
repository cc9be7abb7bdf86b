-- TestEvent meets its stay.
use Rattle.psx_flow.proofs.Kit.{◌≡◌, ℕ, ◌<◌, [], refl, sym, ap, ◌∙◌, arith, calls, kernel_words, fair, start, true, false, word}
use Rattle.std.proofs.Common.{length}
use Rattle.std.specs.Prelude.{Bool, if◌then◌else◌}
use Rattle.abs_kernel.specs.Stay.{Stay}
use Rattle.abs_kernel.specs.Answered.{registers_of, answered}
use Rattle.abs_kernel.specs.Events.{event_number, has_status, with_status}
use Rattle.abs_kernel.specs.TestEvent.{test_event}
use Rattle.abs_kernel.specs.declared.calls.CallId.TheVariants.{B0B}
use Rattle.abs_kernel.specs.Calls.{call}
use Rattle.kern_stay.specs.Shared.{tree, tested_there}
use Rattle.kern_stay.specs.Doors.{Through, Serves, called_with, begun, most_steps}
use Rattle.kern_stay.proofs.Ending.{through, answers}
use Rattle.kern_stay.proofs.RoomGiven.{true_then, false_then}
use Rattle.kern_event.specs.declared.places.TheConstants.{TEST_EVENT}
use Rattle.kern_event.specs.declared.b0b_test_event.TheConstants.{NODES}
use Rattle.kern_event.proofs.EventsHeld.{at_event, status_is, status_past, is_so, isnt_so, holds_status}

pub serves : Serves [] most_steps (call B0B) TEST_EVENT (tree NODES)
serves s d z m h =
    let i : ℕ = event_number (registers_of s).r4 in
    let valid = h.valid in
    let count : word m 0xEA10 ≡ length s.events = h.holds.reads.variables.1.1.1.1.0 in
    let ready : Stay = answered (with_status s i 0x2000) 1 in
    let by : (b : Bool) → has_status s i 0x4000 ≡ b → test_event s ≡ (if b then ready else answered s 0) = λ b e. ap (λ b. if b then ready else answered s 0) e in
    start (calls kernel_words tested_there) (fair kernel_words tested_there) (tree NODES) TEST_EVENT (λ _. ⊥)
    (λ to e. Through (test_event s) most_steps to e) (begun (called_with (registers_of s) d) z m) (
      λ some.
          let lt = true_then i (word m 0xEA10) some in
          let few : i < length s.events = omega (arith, lt, count) in
          let a = at_event i (omega (arith, few, valid.events_most)) in
          let status = status_is s m h.holds i few in
          rw (a.here, a.sort, a.place) (
            λ is.
                rw (a.here, a.sort, a.place) (
                through (test_event s) most_steps _ _ refl (answers most_steps (with_status s i 0x2000) _ (test_event s) (by true (is_so s i 0x4000 (sym status ∙ is))) (holds_status s valid m h.holds i 0x2000 few) (omega arith))),
            λ other. through (test_event s) most_steps _ _ refl (answers most_steps s _ (test_event s) (by false (isnt_so s i 0x4000 (λ e. other (status ∙ e)))) h.holds (omega arith)),
          ),
      λ none.
          let ge = false_then i (word m 0xEA10) none in
          let past = status_past s i (omega (arith, ge, count)) in
          through (test_event s) most_steps _ _ refl (answers most_steps s _ (test_event s) (by false (isnt_so s i 0x4000 (λ e. omega (arith, e, past)))) h.holds (omega arith)),
    )
