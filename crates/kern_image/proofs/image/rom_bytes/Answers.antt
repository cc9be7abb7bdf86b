use Rattle.std.proofs.Common.{arith}
use Rattle.kern_image.specs.Rom.{rom}
use Rattle.kern_image.proofs.RomLemmas.{length-rom_words}
use Rattle.kern_image.proofs.image.rom_bytes.Goals as goal

pub bytes_of-requires : goal.bytes_of-requires
bytes_of-requires c = rw (c.deref.ensures.value, c.in_ok-words.ensures) (let words = length-rom_words in omega (arith, words))

pub returns : goal.returns
unfolding rom
returns c = rw (c.deref.ensures.value, c.in_ok-words.ensures) at c.bytes_of.ensures
