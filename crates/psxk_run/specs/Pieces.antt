-- A text that is sent in pieces: what was sent, the piece that waits, and the rest.
use Rattle.std.specs.Prelude.{◌≡◌, ℕ, List, ◌++◌, Option}
use Rattle.psx_base.specs.declared.host.Out.{Out}
use Rattle.psx_base.specs.declared.host.Out.TheVariants.{Tty, Trace, Ram, Report}
use Rattle.psx_base.specs.Host.{SendsFront}
use Rattle.psx_base.specs.Items.{Item}
use Rattle.psxk_run.specs.Sent.{Grew, GrewFront, OnlyOn}
use Rattle.psxk_run.specs.Texts.{trace_text}

-- bytes were put behind a piece, of which a front may have been sent
pub record Puts (before now : Option (List ℕ)) (piece bytes later : List ℕ) : Type 0 where
  pub sent : List ℕ
  pub grew : Grew before now sent
  pub kept : sent ++ later ≡ piece ++ bytes

-- a sending of a piece failed
pub record Breaks (before now : Out → Option (List ℕ)) (out : Out) (piece : List ℕ) : Type 0 where
  pub front : SendsFront (before out) (now out) piece
  pub others : OnlyOn out before now

-- bytes and lines were put behind the two pieces
pub record PutsBoth (before now : Out → Option (List ℕ)) (tty_piece trace_piece : List ℕ) (bytes : List ℕ) (items : List Item) (later_tty later_trace : List ℕ) : Type 0 where
  pub tty : Puts (before Tty) (now Tty) tty_piece bytes later_tty
  pub trace : Puts (before Trace) (now Trace) trace_piece (trace_text items) later_trace
  pub ram : now Ram ≡ before Ram
  pub report : now Report ≡ before Report

-- a sending of one of the two pieces failed
pub data BreaksOne (before now : Out → Option (List ℕ)) (tty trace : List ℕ) : Type 0 where
  AtTty : Breaks before now Tty tty → BreaksOne before now tty trace
  AtTrace : Breaks before now Trace trace → BreaksOne before now tty trace

-- a text of which this was sent, this piece waits and this is the rest
pub record Stream (before now : Option (List ℕ)) (piece rest whole : List ℕ) : Type 0 where
  pub sent : List ℕ
  pub grew : Grew before now sent
  pub all : (sent ++ piece) ++ rest ≡ whole

-- the two pieces were sent, the trace's with its last line
pub record SendsLast (before now : Out → Option (List ℕ)) (tty_piece trace_piece text : List ℕ) : Type 0 where
  pub tty : Grew (before Tty) (now Tty) tty_piece
  pub trace : Grew (before Trace) (now Trace) (trace_piece ++ text)
  pub ram : now Ram ≡ before Ram
  pub report : now Report ≡ before Report

-- a front of each was
pub record SendsLastFront (before now : Out → Option (List ℕ)) (tty_piece trace_piece text : List ℕ) : Type 0 where
  pub tty : GrewFront (before Tty) (now Tty) tty_piece
  pub trace : GrewFront (before Trace) (now Trace) (trace_piece ++ text)
  pub ram : now Ram ≡ before Ram
  pub report : now Report ≡ before Report
