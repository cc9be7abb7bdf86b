use Rattle.kern_printf.proofs.Joined as joined
use Rattle.kern_printf.proofs.placing.serves.Goals as goal

pub returns : goal.returns
returns c = joined.serves
