-- DeliverEvent meets its stay.
use Rattle.psx_flow.proofs.Kit.{◌≡◌, [], refl, arith, Memory, word, put_word, Calls, calls, kernel_words, fair, start}
use Rattle.psx_base.specs.Context.{taken, IsAtRest}
use Rattle.psx_base.specs.KernelState.{ThreadContext}
use Rattle.abs_kernel.specs.Answered.{registers_of, with_answer}
use Rattle.abs_kernel.specs.DeliverEvent.{deliver_event}
use Rattle.abs_kernel.specs.declared.calls.CallId.TheVariants.{B07}
use Rattle.abs_kernel.specs.Calls.{call}
use Rattle.kern_stay.specs.Shared.{tree, tested_there}
use Rattle.kern_stay.specs.Switch.{settle_area}
use Rattle.kern_stay.specs.Doors.{Through, Serves, called_with, begun, most_steps}
use Rattle.kern_stay.proofs.Ending.{works}
use Rattle.kern_stay.proofs.Delivering.{AreaAlone, area_none, area_stored, asks}
use Rattle.kern_stay.proofs.Switching.{area_settled}
use Rattle.kern_event.specs.declared.places.TheConstants.{DELIVER_EVENT}
use Rattle.kern_event.specs.declared.b07_deliver_event.TheConstants.{NODES}

pub serves : Serves [] most_steps (call B07) DELIVER_EVENT (tree NODES)
serves s d z m h =
    let C : Calls = calls kernel_words tested_there in
    let r = registers_of s in
    let caller : word m 0xEB84 ≡ r.r31 = h.holds.area.1.1.1.1.1.1.1.1.1.1.1.1.1.1.1.1.1.1.1.1.1.1.1.1.1.1.1.1.0 in
    let x : Memory = settle_area m 0 r.r31 in
    let t : ThreadContext = record s.running { context = with_answer (taken s.running.context r.r31) 0 } in
    let alone : AreaAlone m x = area_stored m (put_word m 0xEB10 0) 0xEB88 r.r31 refl (omega arith) (omega arith) (area_stored m m 0xEB10 0 refl (omega arith) (omega arith) (area_none m)) in
    let rests : IsAtRest t.context = record { follows = refl; no_slot = refl; k0 = refl; k1 = refl; none_pending = refl } in
    start C (fair kernel_words tested_there) (tree NODES) DELIVER_EVENT (λ _. ⊥) (λ to e. Through (deliver_event s) most_steps to e) (begun (called_with r d) z m)
    (rw (caller) (works (deliver_event s) most_steps _ refl
    (asks s h.valid m x h.holds t rests alone (area_settled m s.running h.holds.settled r.r31 0 h.holds.area) r.r4 r.r5 (deliver_event s) _ refl refl refl)
    (omega arith) (omega arith)))
