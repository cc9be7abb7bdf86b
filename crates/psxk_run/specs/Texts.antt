-- The texts that a run sends.
use Rattle.std.specs.Prelude.{◌≡◌, ◌⊎◌, ℕ, ◌+◌, ◌≤◌, List, [], ◌∷◌, ◌++◌, codes, map, Option}
use Rattle.std.specs.List.{range_with_len}
use Rattle.psx_base.specs.declared.host.Out.{Out}
use Rattle.psx_base.specs.declared.host.Out.TheVariants.{Tty, Trace, Ram, Report}
use Rattle.psx_base.specs.declared.stop.Stop.{Stop}
use Rattle.psx_base.specs.declared.stop.Stop.TheVariants.{Exit, Budget}
use Rattle.psx_base.specs.Items.{Item}
use Rattle.psx_base.specs.Memory.{Memory, byte}
use Rattle.psx_trace.specs.Line.{line}
use Rattle.psx_trace.specs.StopText.{stop_text}
use Rattle.psx_board.specs.Machine.{Machine}
use Rattle.psx_board.specs.Run.{Outcome, run}
use Rattle.psx_board.specs.Stands.{View, Stands}
use Rattle.psxk_run.specs.Sent.{Grew, GrewFront}
use Rattle.psxk_run.specs.declared.run.RunEnd.{RunEnd}
use Rattle.psxk_run.specs.declared.run.RunEnd.TheVariants.{Done, Failed}

-- the lines of all items in order
unfoldable pub trace_text : List Item → List ℕ
trace_text [] = []
trace_text (item ∷ items) = line item ++ trace_text items

-- so many bytes of a memory from a physical address on
unfoldable pub bytes_from : Memory → ℕ → ℕ → List ℕ
bytes_from m at len = map (λ k. byte m (at + k)) (range_with_len 0 len)

-- main memory, then the scratchpad: 2,098,176 bytes
unfoldable pub ram_text : Memory → List ℕ
ram_text m = bytes_from m 0 0x200000 ++ bytes_from m 0x1F800000 0x400

-- what is reported of a stop: nothing of Exit and Budget
abbrev pub report_of : Stop → List ℕ
report_of (Exit code) = []
report_of Budget = []
report_of stop = codes "psxk: stopped " ++ (stop_text stop ++ codes "\n")

-- the status of a run that ends so
abbrev pub status_of : Stop → ℕ
status_of (Exit code) = 0
status_of Budget = 0
status_of stop = 1

-- the texts of a run were sent, and nothing else
pub record Delivers (before now : Out → Option (List ℕ)) (o : Outcome) : Type 0 where
  pub tty : Grew (before Tty) (now Tty) o.tty
  pub trace : Grew (before Trace) (now Trace) (trace_text o.items)
  pub ram : Grew (before Ram) (now Ram) (ram_text o.last.core.bytes)
  pub report : now Report ≡ before Report

-- of each text a front was sent, and of the memory a byte only where the other two are whole
pub record BreaksOff (before now : Out → Option (List ℕ)) (o : Outcome) : Type 0 where
  pub tty : GrewFront (before Tty) (now Tty) o.tty
  pub trace : GrewFront (before Trace) (now Trace) (trace_text o.items)
  pub ram : GrewFront (before Ram) (now Ram) (ram_text o.last.core.bytes)
  pub late : (now Ram ≡ before Ram) ⊎ (Grew (before Tty) (now Tty) o.tty × Grew (before Trace) (now Trace) (trace_text o.items))
  pub report : now Report ≡ before Report

-- a board is as after some of a run's steps, the budget's at most
pub record Partway (b : View) (budget : ℕ) (m : Machine) : Type 0 where
  pub made : ℕ
  pub within : made ≤ budget
  pub stands : Stands b (run made m).last

-- what holds of how a run on a board ended
abbrev pub IfDone : RunEnd → (Stop → Type 0) → Type 0
IfDone (Done stop) P = P stop
IfDone Failed P = Unit {0}

abbrev pub OnFailed : RunEnd → Type 0 → Type 0
OnFailed (Done stop) P = Unit {0}
OnFailed Failed P = P
