use Rattle.kern_layout.proofs.Written.{reads_event}
use Rattle.kern_layout.proofs.Stored.{event_stored}
use Rattle.std.proofs.Common.{refl, arith}
use Rattle.kern_layout.specs.Reads.{event}
use Rattle.kern_layout.proofs.laws.event_stores.Goals as goal

pub returns : goal.returns
returns c = record {
  written = λ s w x b c i e lt out new line v h. reads_event s v w x b c line i e lt out new h;
  stored = λ s w b c i o value e lt up is line v h. event_stored s v w b c line i o value e lt up is h;
  status = λ s w b c i value lt line v h. event_stored s v w b c line i 4 value record (event s i) { status = value } lt (omega arith) refl h;
}
