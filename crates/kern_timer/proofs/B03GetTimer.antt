-- get_timer meets its stay.
use Rattle.psx_flow.proofs.Kit.{ℕ, inl, refl, arith, calls, kernel_words, fair, start, []}
use Rattle.psx_base.specs.Ports.{value_port}
use Rattle.abs_kernel.specs.Stay.{Stay, Ask}
use Rattle.abs_kernel.specs.Answered.{registers_of, answered}
use Rattle.abs_kernel.specs.GetTimer.{get_timer}
use Rattle.abs_kernel.specs.declared.calls.CallId.TheVariants.{B03}
use Rattle.abs_kernel.specs.Calls.{call}
use Rattle.kern_stay.specs.Shared.{tree, tested_there}
use Rattle.kern_stay.specs.Doors.{Through, Serves, called_with, begun, most_steps}
use Rattle.kern_stay.proofs.Ending.{through_as}
use Rattle.kern_stay.proofs.Passing.{answers_now}
use Rattle.kern_stay.proofs.RoomGiven.{true_then}
use Rattle.kern_timer.specs.declared.places.TheConstants.{GET_TIMER}
use Rattle.kern_timer.specs.declared.b03_get_timer.TheConstants.{NODES}
use Rattle.kern_timer.proofs.CounterPorts.{at_value, there, no_counter}

pub serves : Serves [] most_steps (call B03) GET_TIMER (tree NODES)
serves s d z m h =
    let t : ℕ = (registers_of s).r4 in
    let stay : ℕ → Stay = λ t. Ask (value_port t) (λ value. answered s value) in
    start (calls kernel_words tested_there) (fair kernel_words tested_there) (tree NODES) GET_TIMER (λ _. ⊥)
    (λ to e. Through (get_timer s) most_steps to e) (begun (called_with (registers_of s) d) z m) (
      λ some.
          let p = at_value t (true_then t 3 some) in
          rw (p.here, p.sort, p.place) (
          λ value small.
          through_as (get_timer s) (stay t) most_steps _ _ (there s stay some)
          (record { told = _; ports = refl; follows = (tt, refl); ends = inl (answers_now s most_steps _ (answered s value) refl h.holds (omega arith)) })),
      λ past. no_counter s stay most_steps _ past refl refl h.holds (omega arith),
    )
