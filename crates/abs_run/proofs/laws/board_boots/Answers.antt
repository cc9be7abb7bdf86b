use Rattle.abs_run.proofs.Whole.{board_boots}
use Rattle.abs_run.proofs.laws.board_boots.Goals as goal

pub returns : goal.returns
returns g c = let i = g.C.Coverage in board_boots i.covers
