use Rattle.kern_image.proofs.RomLemmas.{block_opens, block_reads}
use Rattle.kern_image.proofs.laws.block_words.Goals as goal

pub returns-clause-read : goal.returns-clause-read
returns-clause-read c = block_reads

pub returns-clause-opens : goal.returns-clause-opens
returns-clause-opens c = block_opens
