use Rattle.kern_image.proofs.StaysAll.{makes_stays}
use Rattle.kern_image.proofs.stays.stays.Goals as goal

pub returns : goal.returns
returns c = makes_stays
