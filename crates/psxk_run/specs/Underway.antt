-- A run on its way: what its host was sent, and what waits, are the front of the whole run's texts.
use Rattle.std.specs.Prelude.{◌≡◌, ℕ, ◌+◌, Bool, List, [], Option}
use Rattle.psx_base.specs.declared.host.Out.{Out}
use Rattle.psx_base.specs.declared.host.Out.TheVariants.{Tty, Trace, Ram, Report}
use Rattle.psx_base.specs.declared.stop.Stop.{Stop}
use Rattle.psx_base.specs.Items.{S}
use Rattle.psx_trace.specs.Line.{line}
use Rattle.psx_board.specs.Machine.{Machine}
use Rattle.psx_board.specs.Run.{Outcome, run}
use Rattle.psx_board.specs.Stands.{View, Stands}
use Rattle.psxk_run.specs.Texts.{trace_text}
use Rattle.psxk_run.specs.Pieces.{Stream}

-- the rest of a run, from here on, behind what was sent and what waits, is the whole run
pub record Underway (whole rest : Outcome) (before now : Out → Option (List ℕ)) (tty_piece trace_piece : List ℕ) : Type 0 where
  pub tty : Stream (before Tty) (now Tty) tty_piece rest.tty whole.tty
  pub trace : Stream (before Trace) (now Trace) trace_piece (trace_text rest.items) (trace_text whole.items)
  pub stop : rest.stop ≡ whole.stop
  pub last : rest.last ≡ whole.last
  pub ram : now Ram ≡ before Ram
  pub report : now Report ≡ before Report

-- a board stands for a machine from which the rest, so many steps at most, runs
pub record Reached (whole : Outcome) (steps : ℕ) (b : View) (begun : Bool) (before now : Out → Option (List ℕ)) (tty_piece trace_piece : List ℕ) : Type 0 where
  pub machine : Machine
  pub stands : Stands b machine
  pub began : machine.began ≡ begun
  pub underway : Underway whole (run steps machine) before now tty_piece trace_piece

-- a run that has stopped: only its last line is left
pub record Stopped (whole : Outcome) (stop : Stop) (b : View) (before now : Out → Option (List ℕ)) (tty_piece trace_piece : List ℕ) : Type 0 where
  pub tty : Stream (before Tty) (now Tty) tty_piece [] whole.tty
  pub trace : Stream (before Trace) (now Trace) trace_piece (line (S b.taken stop)) (trace_text whole.items)
  pub stops : stop ≡ whole.stop
  pub stands : Stands b whole.last
  pub ram : now Ram ≡ before Ram
  pub report : now Report ≡ before Report

-- a board stands for a machine whose further steps, however many, are those of a run after its first ones
pub record Advanced (first : Machine) (done : ℕ) (b : View) : Type 0 where
  pub machine : Machine
  pub stands : Stands b machine
  pub further : (more : ℕ) → (run (done + more) first).last ≡ (run more machine).last
