use Rattle.kern_layout.proofs.Written.{reads_heap}
use Rattle.kern_layout.proofs.HeapStored.{block_stored, block_unlinked, block_linked}
use Rattle.kern_layout.proofs.laws.heap_stores.Goals as goal

pub returns : goal.returns
returns c = record {
  written = λ s w x b c blocks low high new line v h. reads_heap s v w x b c line blocks low high new h;
  stored = λ s w b c xs ys y z o value is lo up same line v h. block_stored s v w b c line xs ys y z o value is lo up same h;
  unlinked = λ s w x b c xs ys y is link spare zeroed first kept line v h. block_unlinked s v w x b c line xs ys y is link spare zeroed first kept h;
  linked = λ s w x b c xs ys z is few first link next new kept line v h. block_linked s v w x b c line xs ys z is few first link next new kept h;
}
