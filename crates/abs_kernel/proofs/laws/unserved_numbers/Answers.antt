use Rattle.abs_kernel.proofs.Unserved.{unserved_stops}
use Rattle.abs_kernel.proofs.laws.unserved_numbers.Goals as goal

pub returns : goal.returns
returns c = unserved_stops
