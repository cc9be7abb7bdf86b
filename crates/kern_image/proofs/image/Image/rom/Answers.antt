use Rattle.kern_image.proofs.RomLemmas.{length-rom}
use Rattle.kern_image.proofs.image.Image.rom.Goals as goal

pub returns-clause-length : goal.returns-clause-length
returns-clause-length c = rw (c.deref.ensures.value, c.self.invariant) length-rom
