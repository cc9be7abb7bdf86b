use Rattle.std.proofs.Common.{◌≡◌, ℕ, List, length, drop}
use Rattle.psx_asm.specs.Placing.{addressed, is_overlap}
use Rattle.psx_asm.specs.Output.{IsTakenBy}
use Rattle.psx_asm.proofs.place.is_overlap.Given as goal

abbrev pub invariant-loop : goal.invariant-loop
invariant-loop l = (placed : List (ℕ × ℕ)) (bytes : List ℕ) → IsTakenBy l.taken placed → length bytes ≡ l.count
    → is_overlap placed (addressed l.at bytes) ≡ is_overlap placed (addressed l.address (drop l.counter bytes))
