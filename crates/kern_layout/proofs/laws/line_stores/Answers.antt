use Rattle.kern_layout.proofs.HeapStored.{line_stored, line_appended, line_emptied}
use Rattle.kern_layout.proofs.laws.line_stores.Goals as goal

pub returns : goal.returns
returns c = record {
  stored = λ s w x b c k value lt low high new others v h. line_stored s v w x b c k value lt low high new others h;
  appended = λ s w x b c value low mid high count same new v h. line_appended s v w x b c value low mid high count same new h;
  emptied = λ s w b c v h. line_emptied s v w b c h;
}
