use Rattle.kern_file.proofs.LineGathered.{lines_are_gathered, none_is_lost}
use Rattle.kern_file.proofs.line_laws.lines.Goals as goal

pub returns : goal.returns
returns c = record { gathered = lines_are_gathered; none_lost = none_is_lost }
