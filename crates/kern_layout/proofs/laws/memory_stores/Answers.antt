use Rattle.kern_layout.proofs.MemoryStored.{word_stored, line_kept, byte_stored}
use Rattle.kern_layout.proofs.laws.memory_stores.Goals as goal

pub returns : goal.returns
returns c = record {
  word = word_stored;
  line = line_kept;
  byte = byte_stored;
}
