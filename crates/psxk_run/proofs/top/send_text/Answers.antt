use Rattle.psxk_run.proofs.Fronts.{front_whole, front_sent}
use Rattle.psxk_run.proofs.top.send_text.Goals as goal

pub returns-in-Ok-clause-front : goal.returns-in-Ok-clause-front
returns-in-Ok-clause-front g c = record { only = c.in-Ok.ensures.sent.others; front = front_whole _ _ c.args.text.now c.in-Ok.ensures.sent.all }

pub returns-in-Err-clause-front : goal.returns-in-Err-clause-front
returns-in-Err-clause-front g c = record { only = c.in-Err.ensures.sent.others; front = front_sent _ _ c.args.text.now c.in-Err.ensures.sent.front }
