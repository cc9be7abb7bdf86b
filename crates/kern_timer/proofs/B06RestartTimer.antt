-- restart_timer meets its stay.
use Rattle.psx_flow.proofs.Kit.{ℕ, inl, refl, arith, calls, kernel_words, fair, start, []}
use Rattle.psx_base.specs.Ports.{value_port}
use Rattle.abs_kernel.specs.Stay.{Stay, Tell}
use Rattle.abs_kernel.specs.Answered.{registers_of, answered}
use Rattle.abs_kernel.specs.RestartTimer.{restart_timer}
use Rattle.abs_kernel.specs.declared.calls.CallId.TheVariants.{B06}
use Rattle.abs_kernel.specs.Calls.{call}
use Rattle.kern_stay.specs.Shared.{tree, tested_there}
use Rattle.kern_stay.specs.Doors.{Through, Serves, called_with, begun, most_steps}
use Rattle.kern_stay.proofs.Ending.{through_as}
use Rattle.kern_stay.proofs.Passing.{answers_now}
use Rattle.kern_stay.proofs.RoomGiven.{true_then}
use Rattle.kern_timer.specs.declared.places.TheConstants.{RESTART_TIMER}
use Rattle.kern_timer.specs.declared.b06_restart_timer.TheConstants.{NODES}
use Rattle.kern_timer.proofs.CounterPorts.{at_value, there, no_counter}

pub serves : Serves [] most_steps (call B06) RESTART_TIMER (tree NODES)
serves s d z m h =
    let t : ℕ = (registers_of s).r4 in
    let stay : ℕ → Stay = λ t. Tell (value_port t) 0 (answered s 1) in
    start (calls kernel_words tested_there) (fair kernel_words tested_there) (tree NODES) RESTART_TIMER (λ _. ⊥)
    (λ to e. Through (restart_timer s) most_steps to e) (begun (called_with (registers_of s) d) z m) (
      λ some.
          let p = at_value t (true_then t 3 some) in
          rw (p.here, p.sort, p.place) (
          through_as (restart_timer s) (stay t) most_steps _ _ (there s stay some)
          (record { told = _; ports = refl; follows = (tt, (refl, refl, p.other)); ends = inl (answers_now s most_steps _ (answered s 1) refl h.holds (omega arith)) })),
      λ past. no_counter s stay most_steps _ past refl refl h.holds (omega arith),
    )
