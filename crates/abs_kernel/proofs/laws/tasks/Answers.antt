use Rattle.abs_kernel.proofs.Worked.{work_keeps_valid, back_keeps_valid, delivery_keeps_valid}
use Rattle.abs_kernel.proofs.laws.tasks.Goals as goal

pub returns : goal.returns
returns c = record { works = work_keeps_valid; back = back_keeps_valid; delivers = delivery_keeps_valid }
