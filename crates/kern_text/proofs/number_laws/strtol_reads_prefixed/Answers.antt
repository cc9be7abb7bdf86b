use Rattle.kern_text.proofs.NumeralsRead.{strtol_reads_prefixed}
use Rattle.kern_text.proofs.number_laws.strtol_reads_prefixed.Goals as goal

pub returns : goal.returns
returns c = strtol_reads_prefixed
