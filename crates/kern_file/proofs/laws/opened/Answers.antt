use Rattle.kern_file.proofs.Sent.{lowest_opened}
use Rattle.kern_file.proofs.laws.opened.Goals as goal

pub returns : goal.returns
returns c = lowest_opened
