use Rattle.kern_text.proofs.StrcpyCopies.{copies}
use Rattle.kern_text.proofs.copy_laws.strcpy_copies.Goals as goal

pub returns : goal.returns
returns c = copies
