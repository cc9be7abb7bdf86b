use Rattle.kern_layout.proofs.OpeningRead.{opens_as_start}
use Rattle.kern_layout.proofs.opening.opening_reads.Goals as goal

pub returns : goal.returns
returns c = opens_as_start
