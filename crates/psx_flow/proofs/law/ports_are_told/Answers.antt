use Rattle.psx_flow.proofs.Telling.{ports_told}
use Rattle.psx_flow.proofs.law.ports_are_told.Goals as goal

pub returns : goal.returns
returns a = ports_told
