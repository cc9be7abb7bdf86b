use Rattle.std.proofs.Common.{◌≡◌, ◌+◌, ◌-◌, None, false}
use Rattle.psx_board.specs.Machine.{Machine}
use Rattle.psx_board.specs.Run.{run}
use Rattle.psx_board.specs.Stands.{Stands}
use Rattle.psxk_run.specs.Sent.{GoesOn}
use Rattle.psxk_run.specs.Underway.{Reached, Advanced}
use Rattle.psxk_run.proofs.steps.steps.Given as goal

-- what was sent and what waits, before the run of what is left, are the whole run's; each turn finished a step at most
abbrev pub invariant-loop-turn : goal.invariant-loop-turn
invariant-loop-turn g l = record {
  reached : (m : Machine) → Stands l.fn.board m → m.began ≡ false →
      Reached (run l.fn.budget m) (l.budget - l.turn) l.board l.lines.began (g.H.Host.sent l.fn.host) (g.H.Host.sent l.host) l.lines.tty.items l.lines.trace.items;
  made : (m : Machine) → Stands l.fn.board m → Advanced m l.turn l.board;
  running : l.board.stopped ≡ None;
  first : l.first ≡ 0;
  taken : l.board.taken ≡ l.first + l.turn;
  on : GoesOn g.H.Host.holds g.H.Host.load_faults g.H.Host.send_faults l.fn.host l.host;
}
