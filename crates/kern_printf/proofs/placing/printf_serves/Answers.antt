use Rattle.kern_printf.proofs.Served as served
use Rattle.kern_printf.proofs.placing.printf_serves.Goals as goal

pub returns : goal.returns
returns c = served.printf_serves
