use Rattle.std.proofs.Common.{arith}
use Rattle.psx_ports.proofs.Reckoning.{turn-by-turn}
use Rattle.psx_ports.proofs.laws.turn_by_turn.Goals as goal

pub returns : goal.returns
returns c = λ s value target. turn-by-turn s (omega arith) (omega arith)
