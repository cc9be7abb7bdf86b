use Rattle.std.proofs.lemmas.List.{get_or_default}
use Rattle.kern_image.specs.Rom.{rom}
use Rattle.kern_image.proofs.RomLemmas.{length-rom, rom_small}
use Rattle.kern_image.proofs.laws.rom_bytes.Goals as goal

pub returns-clause-bytes : goal.returns-clause-bytes
returns-clause-bytes c = λ k d low. rw (get_or_default rom k d 0 low) (rom_small k)

pub returns-clause-length : goal.returns-clause-length
returns-clause-length c = length-rom
