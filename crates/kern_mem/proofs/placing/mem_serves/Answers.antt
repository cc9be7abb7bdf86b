use Rattle.kern_mem.proofs.Served.{mem_serves}
use Rattle.kern_mem.proofs.placing.mem_serves.Goals as goal

pub returns : goal.returns
returns c = mem_serves
