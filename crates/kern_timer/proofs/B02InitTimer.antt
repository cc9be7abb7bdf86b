-- init_timer meets its stay.
use Rattle.psx_flow.proofs.Kit.{◌≡◌, ℕ, ◌+◌, ◌-◌, ◌*◌, ◌%◌, ◌^◌, ◌<◌, inl, refl, arith, calls, kernel_words, fair, start, []}
use Rattle.std.specs.Prelude.{◌/◌}
use Rattle.std.specs.Int.{bit_at}
use Rattle.std.proofs.lemmas.Nat.Bits.{bit_at-lt}
use Rattle.psx_base.specs.Ports.{mode_port, target_port}
use Rattle.abs_kernel.specs.Stay.{Stay, Tell}
use Rattle.abs_kernel.specs.Answered.{registers_of, answered}
use Rattle.abs_kernel.specs.InitTimer.{mode_of, init_timer}
use Rattle.abs_kernel.specs.declared.calls.CallId.TheVariants.{B02}
use Rattle.abs_kernel.specs.Calls.{call}
use Rattle.kern_stay.specs.Shared.{tree, tested_there}
use Rattle.kern_stay.specs.Doors.{Through, Serves, called_with, begun, most_steps}
use Rattle.kern_stay.proofs.Ending.{through_as}
use Rattle.kern_stay.proofs.Passing.{answers_now}
use Rattle.kern_stay.proofs.RoomGiven.{true_then}
use Rattle.kern_timer.specs.declared.places.TheConstants.{INIT_TIMER}
use Rattle.kern_timer.specs.declared.b02_init_timer.TheConstants.{NODES}
use Rattle.kern_timer.proofs.CounterPorts.{at_mode, at_target, there, no_counter}

-- the mode by shifts: a flag, and the word that it makes
flag_4 : (f : ℕ) → f * 2 ^ 27 % 2 ^ 32 / 2 ^ 31 ≡ bit_at f 4
flag_4 f = omega arith

flag_0 : (f : ℕ) → f * 2 ^ 31 % 2 ^ 32 / 2 ^ 23 ≡ 0x100 * bit_at f 0
flag_0 f = omega arith

flag_12 : (f : ℕ) → f * 2 ^ 19 % 2 ^ 32 / 2 ^ 31 * 2 ^ 4 % 2 ^ 32 ≡ 0x10 * bit_at f 12
flag_12 f = omega arith

sum : (a b c x y : ℕ) → a < 2 → b < 2 → c < 2 → x ≡ 0x100 * b → y ≡ 0x10 * c → (((a + 0x148) % 2 ^ 32 + 2 ^ 32 - x) % 2 ^ 32 + y) % 2 ^ 32 ≡ 0x48 + a + 0x100 * (1 - b) + 0x10 * c
sum a b c x y la lb lc ex ey = omega (arith, la, lb, lc, ex, ey)

mode_is : (f : ℕ) → (((f * 2 ^ 27 % 2 ^ 32 / 2 ^ 31 + 0x148) % 2 ^ 32 + 2 ^ 32 - f * 2 ^ 31 % 2 ^ 32 / 2 ^ 23) % 2 ^ 32 + f * 2 ^ 19 % 2 ^ 32 / 2 ^ 31 * 2 ^ 4 % 2 ^ 32) % 2 ^ 32 ≡ mode_of f
mode_is f = rw (flag_4 f) (sum (bit_at f 4) (bit_at f 0) (bit_at f 12) _ _ (bit_at-lt f 4) (bit_at-lt f 0) (bit_at-lt f 12) (flag_0 f) (flag_12 f))

pub serves : Serves [] most_steps (call B02) INIT_TIMER (tree NODES)
serves s d z m h =
    let r = registers_of s in
    let t : ℕ = r.r4 in
    let stay : ℕ → Stay = λ t. Tell (mode_port t) 0 (Tell (target_port t) r.r5 (Tell (mode_port t) (mode_of r.r6) (answered s 1))) in
    start (calls kernel_words tested_there) (fair kernel_words tested_there) (tree NODES) INIT_TIMER (λ _. ⊥) (λ to e. Through (init_timer s) most_steps to e) (begun (called_with r d) z m) (
      λ some.
          let few = true_then t 3 some in
          let o = at_mode t few in
          let g = at_target t few in
          rw (o.here, o.sort, o.place) (
          rw (g.here, g.sort, g.place) (
          rw (o.here, o.sort, o.place) (
          through_as (init_timer s) (stay t) most_steps _ _ (there s stay some)
          (record {
            told = _;
            ports = refl;
            follows = (((tt, (refl, refl, o.other)), (refl, refl, g.other)), (refl, mode_is r.r6, o.other));
            ends = inl (answers_now s most_steps _ (answered s 1) refl h.holds (omega arith));
          })))),
      λ past. no_counter s stay most_steps _ past refl refl h.holds (omega arith),
    )
