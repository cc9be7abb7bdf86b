use Rattle.psxk_run.proofs.Tellings.{tells-none}
use Rattle.psxk_run.proofs.lines.Lines.show.Goals as goal

pub returns-else-self-clause-tells : goal.returns-else-self-clause-tells
returns-else-self-clause-tells g c = rw c.if-self.false (tells-none _ _ _)
