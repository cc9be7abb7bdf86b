use Rattle.abs_kernel.proofs.Lists.{played_keeps, halted_keeps, answers_in_order, more_answers, enough_answers}
use Rattle.abs_kernel.proofs.laws.played_stays.Goals as goal

pub returns : goal.returns
returns c = record { returned = played_keeps; halted = halted_keeps; in_order = answers_in_order; more = more_answers; enough = enough_answers }
