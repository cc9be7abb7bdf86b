use Rattle.kern_image.proofs.RomLemmas.{pieces_stand}
use Rattle.kern_image.proofs.laws.pieces_stand.Goals as goal

pub returns : goal.returns
returns c = pieces_stand
