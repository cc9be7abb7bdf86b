-- How long an interrupt's stay may take, as a trace shows it.
use Rattle.std.specs.Prelude.{ℕ, ◌+◌, ◌≤◌, List, [], ◌∷◌, Option, Some, None}
use Rattle.psx_base.specs.Items.{Entrance, ByA, ByB, ByC, BySyscall, ByInterrupt, ByDone, ByBack, ByTrap, Item, B, E, R, W, X, S}
use Rattle.abs_run.specs.Serves.{most_interrupt_steps}

-- the latest count of the return from an entry at a count, where it is an interrupt: a step takes it, and then the stay has its steps
abbrev pub latest_return : Entrance → (count : ℕ) → Option ℕ
latest_return ByA count = None
latest_return ByB count = None
latest_return ByC count = None
latest_return BySyscall count = None
latest_return ByInterrupt count = Some (count + 1 + most_interrupt_steps)
latest_return ByDone count = None
latest_return ByBack count = None
latest_return ByTrap count = None

abbrev pub NotLater : Option ℕ → (count : ℕ) → Type 0
NotLater None count = Unit {0}
NotLater (Some latest) count = count ≤ latest

-- Each return from an interrupt, or to the first function that it calls, comes in time. Before the items an entry may be under way.
abbrev pub InTime : Option ℕ → List Item → Type 0
InTime latest [] = Unit {0}
InTime latest (B count ∷ rest) = InTime latest rest
InTime latest (E count cause epc gate number ∷ rest) = InTime (latest_return gate count) rest
InTime latest (R count at value ∷ rest) = InTime latest rest
InTime latest (W count at value ∷ rest) = InTime latest rest
InTime latest (X count pc sr regs ∷ rest) = NotLater latest count × InTime None rest
InTime latest (S count stop ∷ rest) = InTime latest rest

-- so it is in a run's trace
abbrev pub InterruptsInTime : List Item → Type 0
InterruptsInTime items = InTime None items
