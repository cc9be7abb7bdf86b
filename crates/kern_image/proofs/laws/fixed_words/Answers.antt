use Rattle.kern_image.proofs.RomLemmas.{fixed_holds, fixed_reads}
use Rattle.kern_image.proofs.laws.fixed_words.Goals as goal

pub returns-clause-read : goal.returns-clause-read
returns-clause-read c = fixed_reads

pub returns-clause-hold : goal.returns-clause-hold
returns-clause-hold c = fixed_holds
