use Rattle.kern_mem.proofs.WrittenBytes.{memcpy_copies}
use Rattle.kern_mem.proofs.laws.memcpy_copies.Goals as goal

pub returns : goal.returns
returns c = memcpy_copies
