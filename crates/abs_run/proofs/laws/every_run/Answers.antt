use Rattle.abs_run.proofs.Whole.{every_run, every_interrupt}
use Rattle.abs_run.proofs.laws.every_run.Goals as goal

pub returns : goal.returns
returns c = record { runs = every_run; in_time = every_interrupt }
