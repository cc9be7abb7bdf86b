use Rattle.kern_mem.proofs.JumpsBack.{longjmp_comes_back}
use Rattle.kern_mem.proofs.laws.longjmp_comes_back.Goals as goal

pub returns : goal.returns
returns c = longjmp_comes_back
