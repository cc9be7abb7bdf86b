use Rattle.std.proofs.Common.{◌∙◌}
use Rattle.psx_base.specs.declared.host.Out.TheVariants.{Report}
use Rattle.psxk_run.proofs.Ends.{says_stop}
use Rattle.psxk_run.proofs.Fronts.{front_stop}
use Rattle.psxk_run.proofs.top.say_stop.Goals as goal

pub returns-clause-says : goal.returns-clause-says
returns-clause-says g c =
    let h = g.H.Host in
    says_stop (h.sent c.args.host.now) (h.sent c.say.new.host) (h.send_faults c.args.host.now) (h.send_faults c.say.new.host) c.args.stop c.status_of-status.result c.say.result c.as_slice.result.now c.status_of-status.ensures c.if-status-eq0.false (c.as_slice.ensures.value ∙ c.stop_line.ensures) c.say.ensures.says

pub returns-clause-front : goal.returns-clause-front
returns-clause-front g c =
    let h = g.H.Host in
    front_stop (h.sent c.args.host.now Report) (h.sent c.say.new.host Report) c.args.stop c.status_of-status.result c.as_slice.result.now c.status_of-status.ensures c.if-status-eq0.false (c.as_slice.ensures.value ∙ c.stop_line.ensures) c.say.ensures.front
