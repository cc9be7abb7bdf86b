-- CloseEvent, EnableEvent and DisableEvent meet their stays.
use Rattle.psx_flow.proofs.Kit.{◌≡◌, ℕ, ◌+◌, ◌<◌, ◌≤◌, [], refl, sym, ap, ◌∙◌, arith, Memory, Registers, Cop0, Calls, Tree, Stop, Do, calls, kernel_words, fair, start, true, false, word, Sym, Count, ended}
use Rattle.std.proofs.Common.{length}
use Rattle.std.specs.Prelude.{Bool, if◌then◌else◌}
use Rattle.psx_base.specs.KernelState.{KernelState}
use Rattle.kern_layout.specs.Valid.{Valid}
use Rattle.abs_kernel.specs.Answered.{registers_of, answered}
use Rattle.abs_kernel.specs.Events.{event_number, has_status, with_status, gets_status}
use Rattle.abs_kernel.specs.CloseEvent.{close_event}
use Rattle.abs_kernel.specs.EnableEvent.{enable_event}
use Rattle.abs_kernel.specs.DisableEvent.{disable_event}
use Rattle.abs_kernel.specs.declared.calls.CallId.TheVariants.{B09, B0C, B0D}
use Rattle.abs_kernel.specs.Calls.{call}
use Rattle.kern_stay.specs.Shared.{tree, tested_there}
use Rattle.kern_stay.specs.Doors.{Holds, Through, Serves, called_with, begun, most_steps}
use Rattle.kern_stay.proofs.Ending.{through, answers}
use Rattle.kern_stay.proofs.RoomGiven.{true_then, false_then}
use Rattle.kern_event.specs.declared.places.TheConstants.{CLOSE_EVENT, ENABLE_EVENT, DISABLE_EVENT}
use Rattle.kern_event.specs.declared.b09_close_event.TheConstants.{NODES, ENABLE_NODES, DISABLE_NODES}
use Rattle.kern_event.proofs.EventsHeld.{at_event, status_is, status_past, is_so, isnt_so, holds_status}

-- what the three have in common, behind the node that brings the status
abbrev behind_first : Tree → Tree
behind_first (Do i rest) = rest
behind_first _ = Stop

abbrev C : Calls
C = calls kernel_words tested_there

-- from where the new status is in r12
setting : (s : KernelState) → Valid s → (c : Registers) (z : Cop0) (m : Memory) → Holds s m → c.r4 ≡ (registers_of s).r4 → (at : ℕ) (p : Count) → p.steps ≤ 100
    → Sym C (behind_first (tree NODES)) at (ended (λ _. ⊥)) (λ to e. Through (gets_status c.r12 s) most_steps to e) c z m [] [] p
setting s valid c z m holds r4 at p soon =
    let v : ℕ = c.r12 in
    let i : ℕ = event_number (registers_of s).r4 in
    let number : event_number c.r4 ≡ i = ap event_number r4 in
    let count : word m 0xEA10 ≡ length s.events = holds.reads.variables.1.1.1.1.0 in
    let by : (b : Bool) → has_status s i 0 ≡ b → gets_status v s ≡ (if b then answered s 1 else answered (with_status s i v) 1) = λ b e. ap (λ b. if b then answered s 1 else answered (with_status s i v) 1) e in
    rw (number) (
      λ some.
          let lt = true_then i (word m 0xEA10) some in
          let few : i < length s.events = omega (arith, lt, count) in
          let a = at_event i (omega (arith, few, valid.events_most)) in
          let status = status_is s m holds i few in
          rw (a.here, a.sort, a.place) (
            λ used.
                rw (a.here, a.sort, a.place) (
                through (gets_status v s) most_steps _ _ refl (answers most_steps (with_status s i v) _ (gets_status v s) (by false (isnt_so s i 0 (λ e. used (status ∙ e)))) (holds_status s valid m holds i v few) (omega (arith, soon)))),
            λ free. through (gets_status v s) most_steps _ _ refl (answers most_steps s _ (gets_status v s) (by true (is_so s i 0 (sym status ∙ free))) holds (omega (arith, soon))),
          ),
      λ none.
          let ge = false_then i (word m 0xEA10) none in
          through (gets_status v s) most_steps _ _ refl (answers most_steps s _ (gets_status v s) (by true (is_so s i 0 (status_past s i (omega (arith, ge, count))))) holds (omega (arith, soon))),
    )

pub serves : Serves [] most_steps (call B09) CLOSE_EVENT (tree NODES)
serves s d z m h =
    start C (fair kernel_words tested_there) (tree NODES) CLOSE_EVENT (λ _. ⊥) (λ to e. Through (close_event s) most_steps to e) (begun (called_with (registers_of s) d) z m)
    (setting s h.valid (record (called_with (registers_of s) d) { r12 = 0 }) z m h.holds refl (CLOSE_EVENT + 4) _ (omega arith))

pub enable_serves : Serves [] most_steps (call B0C) ENABLE_EVENT (tree ENABLE_NODES)
enable_serves s d z m h =
    start C (fair kernel_words tested_there) (tree ENABLE_NODES) ENABLE_EVENT (λ _. ⊥) (λ to e. Through (enable_event s) most_steps to e) (begun (called_with (registers_of s) d) z m)
    (setting s h.valid (record (called_with (registers_of s) d) { r12 = 0x2000 }) z m h.holds refl (ENABLE_EVENT + 4) _ (omega arith))

pub disable_serves : Serves [] most_steps (call B0D) DISABLE_EVENT (tree DISABLE_NODES)
disable_serves s d z m h =
    start C (fair kernel_words tested_there) (tree DISABLE_NODES) DISABLE_EVENT (λ _. ⊥) (λ to e. Through (disable_event s) most_steps to e) (begun (called_with (registers_of s) d) z m)
    (setting s h.valid (record (called_with (registers_of s) d) { r12 = 0x1000 }) z m h.holds refl (DISABLE_EVENT + 4) _ (omega arith))
