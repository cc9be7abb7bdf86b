use Rattle.kern_event.proofs.Lawful.{bad_handle_keeps}
use Rattle.kern_event.proofs.laws.bad_handle_keeps.Goals as goal

pub returns : goal.returns
returns c = bad_handle_keeps
