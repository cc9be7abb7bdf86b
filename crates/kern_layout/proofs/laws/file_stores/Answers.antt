use Rattle.kern_layout.proofs.Stored.{file_stored}
use Rattle.kern_layout.proofs.laws.file_stores.Goals as goal

pub returns : goal.returns
returns c = λ s w b c n value f lt is line v h. file_stored s v w b c line n value f lt is h
