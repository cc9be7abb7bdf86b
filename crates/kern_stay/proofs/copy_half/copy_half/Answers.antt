use Rattle.kern_stay.proofs.CopyingHalf.{copies_half}
use Rattle.kern_stay.proofs.copy_half.copy_half.Goals as goal

pub returns-clause-serves : goal.returns-clause-serves
returns-clause-serves c = copies_half
