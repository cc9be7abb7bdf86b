use Rattle.kern_file.proofs.Sent.{write_sends, puts_sends}
use Rattle.kern_file.proofs.laws.sent.Goals as goal

pub returns : goal.returns
returns c = record { write = write_sends; puts = puts_sends }
