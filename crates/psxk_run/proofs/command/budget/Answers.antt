use Rattle.std.proofs.Common.{◌≡◌, ◌≤◌, ◌<◌, ◌*◌, ◌+◌, ◌-◌, ℕ, List, [], ◌∷◌, Option, Some, None, IfSome, sym, rules, tests}
use Rattle.psxk_run.specs.Command.{value_of, budget_of}
use Rattle.psxk_run.proofs.command.budget.Goals as goal

-- digits make a number no smaller
value_of-least : (value : ℕ) (digits : List ℕ) (n : ℕ) → value_of value digits ≡ Some n → value ≤ n
value_of-least value [] n e = search (tests, rules)
value_of-least value (digit ∷ digits) n e = search (tests, rules, value_of-least (value * 10 + (digit - 48)) digits n)

-- a budget isn't 0
budget_of-some : (word : List ℕ) (n : ℕ) → budget_of word ≡ Some n → 0 < n
budget_of-some [] n e = search (tests, rules)
budget_of-some (first ∷ rest) n e = search (tests, rules, value_of-least (0 * 10 + (first - 48)) rest n)

if_some : (r : Option ℕ) (word : List ℕ) → r ≡ budget_of word → IfSome r (λ n. 0 < n)
if_some None word e = tt
if_some (Some n) word e = budget_of-some word n (sym e)

pub returns-clause-some : goal.returns-clause-some
returns-clause-some c = if_some c.value.result c.args.word.now (search rules)
