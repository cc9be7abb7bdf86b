use Rattle.kern_file.proofs.TriedAgain.{tries_are_the_same_call}
use Rattle.kern_file.proofs.line_laws.tries.Goals as goal

pub returns : goal.returns
returns c = tries_are_the_same_call
