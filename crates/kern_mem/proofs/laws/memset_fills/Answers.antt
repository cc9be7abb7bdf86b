use Rattle.kern_mem.proofs.WrittenBytes.{memset_fills}
use Rattle.kern_mem.proofs.laws.memset_fills.Goals as goal

pub returns : goal.returns
returns c = memset_fills
