use Rattle.psx_sched.proofs.EachText.{has_one_answer}
use Rattle.psx_sched.proofs.text.schedule_or_fault.Goals as goal

pub returns : goal.returns
returns c = has_one_answer c.args.text.now
