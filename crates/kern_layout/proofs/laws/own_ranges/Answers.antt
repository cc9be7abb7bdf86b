use Rattle.std.proofs.Common.{length}
use Rattle.kern_layout.proofs.ReadingsKept as kept
use Rattle.kern_layout.proofs.Written.{reads_free}
use Rattle.kern_layout.proofs.laws.own_ranges.Goals as goal

pub returns : goal.returns
returns c = record {
  threads = λ s w x v same h. kept.threads_kept s.current s.threads v.threads_most w x same h;
  events = λ s w x v same h. kept.events_kept s.events v.events_most w x same h;
  frames = λ s w x v same h. kept.frames_kept (length s.events) s.frames v.frames w x same h;
  chains = λ s w x v same h. kept.chains_kept s.chains v.chains_count v.chains w x same h;
  heap = λ s w x same variables h. kept.heap_kept s.heap w x same variables h;
  files = λ s w x v same h. kept.files_kept s.files v.files_count w x same h;
  line = λ s b c v same h. kept.line_kept s.line v.line b c same h;
  variables = λ s w x same h. kept.variables_kept s w x same h;
  free_words = λ s w x b c v line low mid high h. reads_free s v w x b c line low mid high h;
}
