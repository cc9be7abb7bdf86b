use Rattle.std.proofs.Common.{arith}
use Rattle.kern_image.proofs.RomLemmas.{rom_words-from_all}
use Rattle.kern_image.proofs.image.words_of.Goals as goal

pub returns : goal.returns
returns c = rom_words-from_all _ (omega (arith, c.loop-place.invariant.size)) (λ k low. c.loop-place.invariant.so_far k (omega arith))
