use Rattle.abs_kernel.proofs.Delivered.{delivers_to_all, delivers_to_the_last, delivers_to_a_call}
use Rattle.abs_kernel.proofs.laws.deliveries.Goals as goal

pub returns : goal.returns
returns c = record { all = delivers_to_all; last = delivers_to_the_last; call = delivers_to_a_call }
