use Rattle.kern_image.proofs.RomLemmas.{boot_reads}
use Rattle.kern_image.proofs.laws.boot_words.Goals as goal

pub returns : goal.returns
returns c = boot_reads
