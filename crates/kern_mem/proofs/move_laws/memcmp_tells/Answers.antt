use Rattle.kern_mem.proofs.MoveLaws.{memcmp_tells}
use Rattle.kern_mem.proofs.move_laws.memcmp_tells.Goals as goal

pub returns : goal.returns
returns c = memcmp_tells
