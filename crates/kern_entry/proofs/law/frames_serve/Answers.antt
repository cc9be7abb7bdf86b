use Rattle.kern_entry.proofs.FramesServe.{push_serves, take_up_serves, back_serves}
use Rattle.kern_entry.proofs.law.frames_serve.Goals as goal

pub returns : goal.returns
returns c = record { push = push_serves; take_up = take_up_serves; back = back_serves }
