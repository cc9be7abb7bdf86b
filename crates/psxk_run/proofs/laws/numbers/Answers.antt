use Rattle.psxk_run.proofs.Numerals.{budgets, rounds}
use Rattle.psxk_run.proofs.laws.numbers.Goals as goal

pub returns-clause-budgets : goal.returns-clause-budgets
returns-clause-budgets c = budgets

pub returns-clause-rounds : goal.returns-clause-rounds
returns-clause-rounds c = rounds
