-- rand meets its stay.
use Rattle.psx_flow.proofs.Kit.{◌≡◌, ℕ, ◌+◌, ◌*◌, ◌%◌, ◌^◌, ◌<◌, refl, sym, ap, ◌∙◌, arith, word, calls, kernel_words, fair, start, []}
use Rattle.std.proofs.Common.{◌/◌}
use Rattle.abs_kernel.specs.Answered.{registers_of, answered}
use Rattle.abs_kernel.specs.Rand.{random_next, with_random, rand}
use Rattle.abs_kernel.specs.declared.calls.CallId.TheVariants.{A2F}
use Rattle.abs_kernel.specs.Calls.{call}
use Rattle.kern_stay.specs.Shared.{tree, tested_there}
use Rattle.kern_stay.specs.Doors.{Through, Serves, called_with, begun, most_steps}
use Rattle.kern_stay.proofs.Holding.{holds_random}
use Rattle.kern_stay.proofs.Ending.{through, answers}
use Rattle.kern_mem.specs.declared.places.TheConstants.{RAND}
use Rattle.kern_mem.specs.declared.a2f_rand.TheConstants.{NODES}

next_is : (x : ℕ) → random_next x ≡ (x * 0x41C64E6D % 2 ^ 32 + 0x3039) % 2 ^ 32
next_is x = omega arith

answer_is : (x : ℕ) → x < 2 ^ 32 → x / 2 ^ 16 % 2 ^ 15 ≡ x * 2 ^ 1 % 2 ^ 32 / 2 ^ 17
answer_is x h = omega arith

pub serves : Serves [] most_steps (call A2F) RAND (tree NODES)
serves s d z m h =
    let x : ℕ = word m 0xEA14 in
    let v : ℕ = (x * 0x41C64E6D % 2 ^ 32 + 0x3039) % 2 ^ 32 in
    let was : s.random ≡ x = sym h.holds.reads.variables.1.1.1.1.1.0 in
    let e : random_next s.random ≡ v = ap random_next was ∙ next_is x in
    let r : v / 2 ^ 16 % 2 ^ 15 ≡ v * 2 ^ 1 % 2 ^ 32 / 2 ^ 17 = answer_is v (omega arith) in
    start (calls kernel_words tested_there) (fair kernel_words tested_there) (tree NODES) RAND (λ _. ⊥) (λ to e. Through (rand s) most_steps to e) (begun (called_with (registers_of s) d) z m)
    (through (rand s) most_steps _ _ refl (answers most_steps (with_random s v) _ (rand s)
    (ap (λ y. answered (with_random s y) (y / 2 ^ 16 % 2 ^ 15)) e ∙ ap (answered (with_random s v)) r) (holds_random s h.valid m h.holds v) (omega arith)))
