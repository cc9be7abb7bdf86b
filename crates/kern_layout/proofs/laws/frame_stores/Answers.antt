use Rattle.kern_layout.proofs.Written.{reads_frame}
use Rattle.kern_layout.proofs.Stored.{context_stored, frame_way_stored, frames_dropped}
use Rattle.kern_layout.proofs.Moved.{without_next, reads_pushed}
use Rattle.kern_layout.proofs.laws.frame_stores.Goals as goal

pub returns : goal.returns
returns c = record {
  written = λ s w x b c n f lt out new line v h. reads_frame s v w x b c line n f lt out new h;
  context_stored = λ s w b c n o value t lt up is line v h. context_stored s v w b c line n o value t lt up is h;
  task_stored = λ s w b c n o value us lt lo up is elements lines line v h. frame_way_stored s v w b c line n o value us lt lo up is elements lines h;
  pushed = λ s w x b c f low mid first high new count line v h. reads_pushed s (without_next s v) w x b c line f low mid first high new count h;
  dropped = λ s w b c n le line v h. frames_dropped s v w b c line n le h;
}
