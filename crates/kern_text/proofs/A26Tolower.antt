-- tolower meets its stay.
use Rattle.psx_flow.proofs.Kit.{◌≡◌, ℕ, ◌+◌, ◌*◌, ◌%◌, ◌^◌, ◌<◌, refl, sym, ap, ◌∙◌, arith, calls, kernel_words, fair, start, []}
use Rattle.std.proofs.Common.{◌/◌, ◌≤◌, tests, rules}
use Rattle.abs_kernel.specs.Answered.{registers_of, answered}
use Rattle.abs_kernel.specs.Tolower.{small_of, tolower}
use Rattle.abs_kernel.specs.declared.calls.CallId.TheVariants.{A26}
use Rattle.abs_kernel.specs.Calls.{call}
use Rattle.kern_stay.specs.Shared.{tree, tested_there}
use Rattle.kern_stay.specs.Doors.{Through, Serves, called_with, begun, most_steps}
use Rattle.kern_stay.proofs.RoomGiven.{true_then, false_then}
use Rattle.kern_stay.proofs.Ending.{low_byte, through, answers}
use Rattle.kern_text.specs.declared.places.TheConstants.{TOLOWER}
use Rattle.kern_text.specs.declared.a26_tolower.TheConstants.{NODES}

capital : (b : ℕ) → b < 2 ^ 8 → (b + 0xFFFFFFBF) % 2 ^ 32 < 26 → small_of b ≡ (b + 0x20) % 2 ^ 32
capital b h l = search (tests, arith, rules)

no_capital : (b : ℕ) → b < 2 ^ 8 → 26 ≤ (b + 0xFFFFFFBF) % 2 ^ 32 → small_of b ≡ b
no_capital b h l = search (tests, arith, rules)

pub serves : Serves [] most_steps (call A26) TOLOWER (tree NODES)
serves s d z m h =
    let v : ℕ = (registers_of s).r4 in
    let b : ℕ = v * 2 ^ 24 % 2 ^ 32 / 2 ^ 24 in
    let low : small_of (v % 2 ^ 8) ≡ small_of b = ap small_of (sym (low_byte v)) in
    let few : b < 2 ^ 8 = omega arith in
    start (calls kernel_words tested_there) (fair kernel_words tested_there) (tree NODES) TOLOWER (λ _. ⊥) (λ to e. Through (tolower s) most_steps to e) (begun (called_with (registers_of s) d) z m) (
      (λ is. through (tolower s) most_steps _ _ refl (answers most_steps s _ (tolower s) (ap (answered s) (low ∙ capital b few (true_then _ _ is))) h.holds (omega arith))),
      (λ is. through (tolower s) most_steps _ _ refl (answers most_steps s _ (tolower s) (ap (answered s) (low ∙ no_capital b few (false_then _ _ is))) h.holds (omega arith))),
    )
