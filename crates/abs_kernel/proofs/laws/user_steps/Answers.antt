use Rattle.abs_kernel.proofs.UserSteps.{user_step_keeps_valid}
use Rattle.abs_kernel.proofs.laws.user_steps.Goals as goal

pub returns : goal.returns
returns c = user_step_keeps_valid
