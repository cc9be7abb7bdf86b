use Rattle.abs_run.proofs.Whole.{board_runs, board_returns_in_time}
use Rattle.abs_run.proofs.laws.board_runs.Goals as goal

pub returns : goal.returns
returns g c = let i = g.C.Coverage in record { runs = board_runs i.covers i.keeps i.shows; in_time = board_returns_in_time i.covers i.keeps i.shows }
