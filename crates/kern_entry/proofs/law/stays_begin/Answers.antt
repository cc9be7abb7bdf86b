use Rattle.kern_entry.proofs.Whole.{stays_begin}
use Rattle.kern_entry.proofs.law.stays_begin.Goals as goal

pub returns : goal.returns
returns c = stays_begin
