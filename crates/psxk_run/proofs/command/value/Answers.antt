use Rattle.std.proofs.Common.{◌≡◌, ℕ, ◌<◌, List, [], ◌∷◌, None, sym, ◌∙◌, rules, tests}
use Rattle.psxk_run.specs.Command.{value_of}
use Rattle.psxk_run.proofs.command.value.Goals as goal

-- a number that is too large stays so
value_of-large : (value : ℕ) (digits : List ℕ) → 4000000000 < value → value_of value digits ≡ None
value_of-large value [] large = search (tests, rules)
value_of-large value (digit ∷ digits) large = search (tests, rules)

pub returns-then-value-gt4000000000 : goal.returns-then-value-gt4000000000
returns-then-value-gt4000000000 c =
    sym (value_of-large c.loop-digit.value _ c.if-value-gt4000000000.true) ∙ c.loop-digit.invariant.so_far
