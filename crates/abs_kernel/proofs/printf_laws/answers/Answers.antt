use Rattle.abs_kernel.proofs.Printed.{answer_counts}
use Rattle.abs_kernel.proofs.printf_laws.answers.Goals as goal

pub returns : goal.returns
returns c = answer_counts
