-- abs meets its stay.
use Rattle.psx_flow.proofs.Kit.{◌≡◌, ℕ, ◌+◌, ◌-◌, ◌%◌, ◌^◌, ◌<◌, refl, sym, ap, ◌∙◌, arith, calls, kernel_words, fair, start, []}
use Rattle.std.proofs.Common.{◌≤◌, tests, rules}
use Rattle.abs_kernel.specs.Answered.{registers_of, answered}
use Rattle.abs_kernel.specs.Abs.{magnitude_of, abs}
use Rattle.abs_kernel.specs.declared.calls.CallId.TheVariants.{A0E}
use Rattle.abs_kernel.specs.Calls.{call}
use Rattle.kern_stay.specs.Shared.{tree, tested_there}
use Rattle.kern_stay.specs.Doors.{Through, Serves, called_with, begun, most_steps}
use Rattle.kern_stay.proofs.Ending.{through, answers}
use Rattle.kern_text.specs.declared.places.TheConstants.{ABS}
use Rattle.kern_text.specs.declared.a0e_abs.TheConstants.{NODES}

negative : (v : ℕ) → 2 ^ 31 ≤ v → magnitude_of v ≡ (0 + 2 ^ 32 - v) % 2 ^ 32
negative v h = search (tests, arith, rules)

other : (v : ℕ) → v < 2 ^ 31 → magnitude_of v ≡ v
other v h = search (tests, arith, rules)

pub serves : Serves [] most_steps (call A0E) ABS (tree NODES)
serves s d z m h =
    let v : ℕ = (registers_of s).r4 in
    start (calls kernel_words tested_there) (fair kernel_words tested_there) (tree NODES) ABS (λ _. ⊥) (λ to e. Through (abs s) most_steps to e) (begun (called_with (registers_of s) d) z m) (
      (λ is. through (abs s) most_steps _ _ refl (answers most_steps s _ (abs s) (ap (answered s) (negative v is)) h.holds (omega arith))),
      (λ is. through (abs s) most_steps _ _ refl (answers most_steps s _ (abs s) (ap (answered s) (other v is)) h.holds (omega arith))),
    )
