use Rattle.abs_kernel.proofs.Waiting.{entered_again}
use Rattle.abs_kernel.proofs.laws.waiting_calls.Goals as goal

pub returns : goal.returns
returns c = entered_again
