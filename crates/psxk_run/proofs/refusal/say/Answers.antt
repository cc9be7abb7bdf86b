use Rattle.psx_base.specs.declared.host.Out.TheVariants.{Report}
use Rattle.psxk_run.proofs.Fronts.{front_whole, front_sent}
use Rattle.psxk_run.proofs.refusal.say.Goals as goal

pub returns-in-Ok-clause-front : goal.returns-in-Ok-clause-front
returns-in-Ok-clause-front g c = front_whole (g.H.Host.sent c.args.host.now Report) (g.H.Host.sent c.send.new.self Report) c.args.text.now c.in-Ok.ensures.sent.all

pub returns-in-Err-clause-front : goal.returns-in-Err-clause-front
returns-in-Err-clause-front g c = front_sent (g.H.Host.sent c.args.host.now Report) (g.H.Host.sent c.send.new.self Report) c.args.text.now c.in-Err.ensures.sent.front
