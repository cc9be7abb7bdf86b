use Rattle.abs_kernel.proofs.Critical.{interrupts_given_back}
use Rattle.abs_kernel.proofs.laws.critical_sections.Goals as goal

pub returns : goal.returns
returns c = interrupts_given_back
