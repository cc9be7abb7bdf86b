use Rattle.kern_image.proofs.RomLemmas.{rom_fits, word_of-rom}
use Rattle.kern_image.proofs.laws.rom_words.Goals as goal

pub returns-clause-read : goal.returns-clause-read
returns-clause-read c = word_of-rom

pub returns-clause-fit : goal.returns-clause-fit
returns-clause-fit c = rom_fits
