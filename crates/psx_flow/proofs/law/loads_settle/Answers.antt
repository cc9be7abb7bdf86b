use Rattle.psx_flow.proofs.Settling.{settles}
use Rattle.psx_flow.proofs.law.loads_settle.Goals as goal

pub returns : goal.returns
returns a = settles
