-- WaitEvent meets its stay.
use Rattle.psx_flow.proofs.Kit.{◌≡◌, ℕ, ◌<◌, ◌≤◌, [], refl, sym, ◌∙◌, subst, arith, calls, kernel_words, fair, start, true, false, word, Run}
use Rattle.std.proofs.Common.{length}
use Rattle.std.specs.Prelude.{Bool, if◌then◌else◌}
use Rattle.psx_base.specs.KernelState.{KernelState}
use Rattle.abs_kernel.specs.Stay.{Stay}
use Rattle.abs_kernel.specs.Answered.{registers_of, answered, waits}
use Rattle.abs_kernel.specs.Events.{event_number, has_status, with_status}
use Rattle.abs_kernel.specs.WaitEvent.{wait_event}
use Rattle.abs_kernel.specs.declared.calls.CallId.TheVariants.{B0A}
use Rattle.abs_kernel.specs.Calls.{call}
use Rattle.kern_stay.specs.Shared.{tree, tested_there}
use Rattle.kern_stay.specs.Doors.{Holds, Ends, Through, Serves, called_with, begun, most_steps}
use Rattle.kern_stay.specs.declared.places.TheConstants.{WAIT}
use Rattle.kern_stay.proofs.Ending.{through, answers}
use Rattle.kern_stay.proofs.RoomGiven.{true_then, false_then}
use Rattle.kern_event.specs.declared.places.TheConstants.{WAIT_EVENT}
use Rattle.kern_event.specs.declared.b0a_wait_event.TheConstants.{NODES}
use Rattle.kern_event.proofs.EventsHeld.{at_event, status_is, status_past, is_so, isnt_so, holds_status}

-- at WAIT, where no port was accessed
waits_here : (most : ℕ) (state : KernelState) (e : Run) (stay : Stay) → stay ≡ waits state → state.running.context.in_slot ≡ false → Holds state e.bytes → e.steps ≤ most → Ends 128 stay most WAIT e
waits_here most state e stay is out h few = subst (λ x. Ends 128 x most WAIT e) (sym is) (few, record { state = state; out = out; is = refl; holds = h })

pub serves : Serves [] most_steps (call B0A) WAIT_EVENT (tree NODES)
serves s d z m h =
    let i : ℕ = event_number (registers_of s).r4 in
    let valid = h.valid in
    let count : word m 0xEA10 ≡ length s.events = h.holds.reads.variables.1.1.1.1.0 in
    let ready : Stay = answered (with_status s i 0x2000) 1 in
    let by : (b c : Bool) → has_status s i 0x2000 ≡ b → has_status s i 0x4000 ≡ c → wait_event s ≡ (if b then waits s else (if c then ready else answered s 0))
    = λ b c e f j. if e j then waits s else (if f j then ready else answered s 0) in
    start (calls kernel_words tested_there) (fair kernel_words tested_there) (tree NODES) WAIT_EVENT (λ _. ⊥)
    (λ to e. Through (wait_event s) most_steps to e) (begun (called_with (registers_of s) d) z m) (
      λ some.
          let lt = true_then i (word m 0xEA10) some in
          let few : i < length s.events = omega (arith, lt, count) in
          let a = at_event i (omega (arith, few, valid.events_most)) in
          let status = status_is s m h.holds i few in
          rw (a.here, a.sort, a.place) (
            λ busy.
                let is = by true (has_status s i 0x4000) (is_so s i 0x2000 (sym status ∙ busy)) refl in
                through (wait_event s) most_steps _ _ refl (waits_here most_steps s _ (wait_event s) is h.out h.holds (omega arith)),
            λ free.
                let isnt = isnt_so s i 0x2000 (λ e. free (status ∙ e)) in
                rw (a.here, a.sort, a.place) (
                  λ is.
                      through (wait_event s) most_steps _ _ refl (answers most_steps (with_status s i 0x2000) _ (wait_event s) (by false true isnt (is_so s i 0x4000 (sym status ∙ is)))
                      (holds_status s valid m h.holds i 0x2000 few) (omega arith)),
                  λ other. through (wait_event s) most_steps _ _ refl (answers most_steps s _ (wait_event s) (by false false isnt (isnt_so s i 0x4000 (λ e. other (status ∙ e)))) h.holds (omega arith)),
                ),
          ),
      λ none.
          let ge = false_then i (word m 0xEA10) none in
          let past = status_past s i (omega (arith, ge, count)) in
          through (wait_event s) most_steps _ _ refl (answers most_steps s _ (wait_event s)
          (by false false (isnt_so s i 0x2000 (λ e. omega (arith, e, past))) (isnt_so s i 0x4000 (λ e. omega (arith, e, past)))) h.holds (omega arith)),
    )
