use Rattle.psxk_run.proofs.Endings.{delivered, broke-end, broke-ram}
use Rattle.psxk_run.proofs.run.sends.Goals as goal

pub returns-in-Err-end-clause-fronts : goal.returns-in-Err-end-clause-fronts
returns-in-Err-end-clause-fronts g c m s e =
    broke-end _ c.in-Ok.stop c.steps.new.board _ (g.H.Host.sent c.steps.new.host) _ _ _ (c.in-Ok.ensures.stopped m s e) (rw (← c.taken.ensures.count) c.in-Err-end.ensures.fronts)

pub returns-in-Err-send_ram-clause-fronts : goal.returns-in-Err-send_ram-clause-fronts
returns-in-Err-send_ram-clause-fronts g c m s e =
    broke-ram _ c.in-Ok.stop c.steps.new.board _ (g.H.Host.sent c.steps.new.host) (g.H.Host.sent c.end.new.host) _ _ _ (c.in-Ok.ensures.stopped m s e)
    (rw (← c.taken.ensures.count) c.in_default.ensures.ends) (rw (← c.ram.ensures) c.in-Err-send_ram.ensures.front) c.send_ram.ensures.others

pub returns-clause-sent : goal.returns-clause-sent
returns-clause-sent g c m s e =
    delivered _ c.in-Ok.stop c.steps.new.board _ (g.H.Host.sent c.steps.new.host) (g.H.Host.sent c.end.new.host) _ _ _ (c.in-Ok.ensures.stopped m s e)
    (rw (← c.taken.ensures.count) c.in_default.ensures.ends) (rw (← c.ram.ensures) c.in_default-send_ram.ensures.sent) c.send_ram.ensures.others
