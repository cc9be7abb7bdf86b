use Rattle.kern_image.proofs.Booted.{each_boots}
use Rattle.kern_image.proofs.boots.boots.Goals as goal

pub returns : goal.returns
returns c = each_boots
