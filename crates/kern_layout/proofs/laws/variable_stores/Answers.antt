use Rattle.kern_layout.proofs.Stored.{variable_stored}
use Rattle.kern_layout.proofs.laws.variable_stores.Goals as goal

pub returns : goal.returns
returns c = λ s w b c o value next random token errno base up is line v h. variable_stored s v w b c line o value next random token errno base up is h
