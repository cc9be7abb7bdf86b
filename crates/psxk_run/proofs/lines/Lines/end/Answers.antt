use Rattle.psxk_run.proofs.Endings.{ends-all, ends-broke_line, ends-broke_tty, ends-broke_trace}
use Rattle.psxk_run.proofs.lines.Lines.end.Goals as goal

pub returns-in-Err-clause-fronts : goal.returns-in-Err-clause-fronts
returns-in-Err-clause-fronts g c = ends-broke_line _ _ _ _ _ c.in-Err.ensures.breaks

pub returns-in-Err-flush-clause-fronts : goal.returns-in-Err-flush-clause-fronts
returns-in-Err-flush-clause-fronts g c = ends-broke_tty _ (g.H.Host.sent c.line.new.host) _ _ _ _ _ _ c.in_default.ensures.tells c.in-Err-flush.ensures.breaks

pub returns-in-Err-flush-2-clause-fronts : goal.returns-in-Err-flush-2-clause-fronts
returns-in-Err-flush-2-clause-fronts g c =
    ends-broke_trace _ (g.H.Host.sent c.line.new.host) (g.H.Host.sent c.flush.new.host) _ _ _ _ _ _ c.in_default.ensures.tells c.in_default-flush.ensures.sent c.flush.ensures.others c.in-Err-flush-2.ensures.breaks

pub returns-clause-ends : goal.returns-clause-ends
returns-clause-ends g c =
    ends-all _ (g.H.Host.sent c.line.new.host) (g.H.Host.sent c.flush.new.host) _ _ _ _ _ _ c.in_default.ensures.tells c.in_default-flush.ensures.sent c.flush.ensures.others c.in_default-flush-2.ensures.sent c.flush-2.ensures.others
