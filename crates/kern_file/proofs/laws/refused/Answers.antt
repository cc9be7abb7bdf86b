use Rattle.kern_file.proofs.Refused.{closed_refuses, none_there, error_answered}
use Rattle.kern_file.proofs.laws.refused.Goals as goal

pub returns : goal.returns
returns c = record { closed = closed_refuses; none = none_there; answered = error_answered }
