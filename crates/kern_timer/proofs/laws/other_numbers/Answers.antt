use Rattle.kern_timer.proofs.Lawful.{other_numbers}
use Rattle.kern_timer.proofs.laws.other_numbers.Goals as goal

pub returns : goal.returns
returns c = other_numbers
