use Rattle.kern_image.proofs.RomLemmas.{gates_read}
use Rattle.kern_image.proofs.laws.gates.Goals as goal

pub returns : goal.returns
returns c = gates_read
