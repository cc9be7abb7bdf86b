use Rattle.kern_layout.proofs.Written.{reads_thread}
use Rattle.kern_layout.proofs.Stored.{thread_stored, thread_freed}
use Rattle.kern_layout.proofs.Moved.{reads_switched}
use Rattle.kern_layout.proofs.laws.thread_stores.Goals as goal

pub returns : goal.returns
returns c = record {
  written = λ s w x b c n t lt out new line v h. reads_thread s v w x b c line n t lt out new h;
  stored = λ s w b c n o value t lt up is line v h. thread_stored s v w b c line n o value t lt up is h;
  freed = λ s w b c n lt line v h. thread_freed s v w b c line n lt h;
  switched = λ s w x b c n t low mid high new now line v h. reads_switched s v w x b c line n t low mid high new now h;
}
