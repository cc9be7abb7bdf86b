use Rattle.kern_mem.proofs.Reading.{reading_keeps}
use Rattle.kern_mem.proofs.laws.reading_keeps.Goals as goal

pub returns : goal.returns
returns c = reading_keeps
