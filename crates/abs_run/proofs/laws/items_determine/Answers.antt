use Rattle.abs_run.proofs.Determined.{items_determine}
use Rattle.abs_run.proofs.laws.items_determine.Goals as goal

pub returns : goal.returns
returns c = items_determine
