use Rattle.kern_image.proofs.FinishServed.{interrupts_finish}
use Rattle.kern_image.proofs.stays.interrupts.Goals as goal

pub returns : goal.returns
returns c = interrupts_finish
