use Rattle.kern_layout.proofs.InWords.{made_memory-bytes, start-words}
use Rattle.kern_layout.proofs.MemoryMade.{made_memory, byte-made_outside, reads_memory}
use Rattle.kern_layout.proofs.StandsMade.{each_stands, stands_one}
use Rattle.kern_layout.proofs.One.{reads_one}
use Rattle.kern_layout.proofs.StartValid.{start-valid}
use Rattle.kern_layout.proofs.laws.states.Goals as goal

pub returns : goal.returns
returns c = record {
  each_is_read = λ s v given. (made_memory s given, reads_memory s v given, λ a o. byte-made_outside s given v.line a o, λ words bytes. made_memory-bytes s v words given bytes);
  each_stands = each_stands;
  reads_one = reads_one;
  stands_one = stands_one;
  starts_valid = start-valid;
  starts_in_words = start-words;
}
