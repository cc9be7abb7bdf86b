use Rattle.std.proofs.Common.{◌≡◌, ℕ, List, length, drop, not, find}
use Rattle.psx_asm.specs.Placing.{addressed, is_inside}
use Rattle.psx_asm.proofs.place.first_outside.Given as goal

abbrev pub invariant-loop : goal.invariant-loop
invariant-loop l = (bytes : List ℕ) → length bytes ≡ l.count
    → find (λ p. not (is_inside l.window.from l.window.to p.0)) (addressed l.at bytes) ≡ find (λ p. not (is_inside l.window.from l.window.to p.0)) (addressed l.address (drop l.counter bytes))
