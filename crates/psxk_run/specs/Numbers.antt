-- Which words of the command line are numbers.
use Rattle.std.specs.Prelude.{◌≡◌, ◌↔◌, ℕ, ◌≤◌, List, Option, Some, decimal}
use Rattle.psxk_run.specs.Command.{budget_of, rounds_of}

-- Exactly the numbers from 1 to the most are read: each from its decimal numeral, which has no sign and no zero in front, and from no other word.
abbrev pub ReadsNumerals : (List ℕ → Option ℕ) → (most : ℕ) → Type 0
ReadsNumerals read most = (word : List ℕ) (n : ℕ) → (read word ≡ Some n) ↔ (((1 ≤ n) × (n ≤ most)) × (word ≡ decimal n))

-- BUDGET
abbrev pub BudgetsAreNumerals : Type 0
BudgetsAreNumerals = ReadsNumerals budget_of 4000000000

-- N
abbrev pub RoundsAreNumerals : Type 0
RoundsAreNumerals = ReadsNumerals rounds_of 1000
