use Rattle.psxk_run.proofs.Tellings.{tells-none}
use Rattle.psxk_run.proofs.lines.Lines.tell.Goals as goal

pub returns-in-Plain-clause-tells : goal.returns-in-Plain-clause-tells
returns-in-Plain-clause-tells g c bytes = rw c.in-Plain.is (tells-none _ _ _)

pub returns-in-Stopped-clause-tells : goal.returns-in-Stopped-clause-tells
returns-in-Stopped-clause-tells g c bytes = rw c.in-Stopped.is (tells-none _ _ _)

pub returns-in-Entered-clause-tells : goal.returns-in-Entered-clause-tells
returns-in-Entered-clause-tells g c bytes = rw (c.in-Entered.is, ← c.entry.ensures bytes) c.show-in-Entered.ensures.tells
