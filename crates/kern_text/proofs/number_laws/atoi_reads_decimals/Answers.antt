use Rattle.kern_text.proofs.NumeralsRead.{atoi_reads_decimals}
use Rattle.kern_text.proofs.number_laws.atoi_reads_decimals.Goals as goal

pub returns : goal.returns
returns c = atoi_reads_decimals
