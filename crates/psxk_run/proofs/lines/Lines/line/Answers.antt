use Rattle.std.proofs.Common.{◌∙◌}
use Rattle.psxk_run.proofs.Tellings.{tells-line}
use Rattle.psxk_run.proofs.lines.Lines.line.Goals as goal

pub returns-clause-tells : goal.returns-clause-tells
returns-clause-tells g c = tells-line _ _ _ _ _ _ _ (c.as_slice.ensures.value ∙ c.line_of-line.ensures.items) c.in_ok-put.ensures.puts c.in_ok-put.ensures.others
