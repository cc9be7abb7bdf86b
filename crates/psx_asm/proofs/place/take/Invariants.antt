use Rattle.std.proofs.Common.{◌≡◌, ℕ, ◌+◌, ◌%◌, ◌^◌, List, ◌++◌, length, take}
use Rattle.psx_asm.specs.Placing.{addressed}
use Rattle.psx_asm.specs.Output.{IsTakenBy}
use Rattle.psx_asm.proofs.place.take.Given as goal

abbrev pub invariant-loop : goal.invariant-loop
invariant-loop l = record {
  here : l.address ≡ (l.at + l.counter) % 2 ^ 32;
  so_far : (placed : List (ℕ × ℕ)) (bytes : List ℕ) → IsTakenBy l.initial.taken placed → length bytes ≡ l.count → IsTakenBy l.taken (placed ++ addressed l.at (take l.counter bytes));
}
