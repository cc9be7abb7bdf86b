use Rattle.psxk_run.proofs.Tellings.{tells-bytes}
use Rattle.psxk_run.proofs.lines.Lines.byte.Goals as goal

pub returns-clause-tells : goal.returns-clause-tells
returns-clause-tells g c = tells-bytes _ _ _ _ _ _ c.in_ok-put.ensures.puts c.in_ok-put.ensures.others
