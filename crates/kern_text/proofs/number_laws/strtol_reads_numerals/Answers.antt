use Rattle.kern_text.proofs.NumeralsRead.{strtol_reads_numerals}
use Rattle.kern_text.proofs.number_laws.strtol_reads_numerals.Goals as goal

pub returns : goal.returns
returns c = strtol_reads_numerals
