use Rattle.kern_entry.proofs.Joins.{exit_called}
use Rattle.kern_entry.proofs.law.own_calls.Goals as goal

pub returns : goal.returns
returns c = exit_called
