use Rattle.kern_text.proofs.Texts.{strlen_counts}
use Rattle.kern_text.proofs.laws.strlen_counts_the_bytes_before_the_zero.Goals as goal

pub returns : goal.returns
returns c = strlen_counts
