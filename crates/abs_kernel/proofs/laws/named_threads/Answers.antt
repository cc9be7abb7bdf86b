use Rattle.abs_kernel.proofs.Delivered.{named_is_taken_up, named_waits}
use Rattle.abs_kernel.proofs.laws.named_threads.Goals as goal

pub returns : goal.returns
returns c = record { taken_up = named_is_taken_up; waits = named_waits }
