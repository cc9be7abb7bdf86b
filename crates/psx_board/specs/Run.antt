-- Whole runs of the board.
use Rattle.std.specs.Prelude.{ℕ, zero, suc, List, [], ◌∷◌, ◌++◌}
use Rattle.psx_base.specs.declared.stop.Stop.{Stop}
use Rattle.psx_base.specs.declared.stop.Stop.TheVariants.{Budget}
use Rattle.psx_base.specs.declared.stop.Sizes.{Sizes}
use Rattle.psx_base.specs.Items.{Item, S}
use Rattle.psx_sched.specs.declared.schedule.Entry.{Entry}
use Rattle.psx_exe.specs.declared.exe.Exe.{Exe}
use Rattle.psx_board.specs.Machine.{Machine, start}
use Rattle.psx_board.specs.Turn.{Turn, On, Final, turn}

-- the lines of a run, what it wrote to the console, how it ended, and the last state
pub record Outcome : Type 0 where
  pub items : List Item
  pub tty : List ℕ
  pub stop : Stop
  pub last : Machine

-- a run, after these lines and bytes were made
abbrev pub behind : List Item → List ℕ → Outcome → Outcome
behind items tty o = record { items = items ++ o.items; tty = tty ++ o.tty; stop = o.stop; last = o.last }

abbrev pub ended : Machine → Stop → Outcome
ended m stop = record { items = S m.history.now stop ∷ []; tty = []; stop = stop; last = m }

-- a run that goes on by rest, where its first step goes on
abbrev pub then_run : Turn → (Machine → Outcome) → Outcome
then_run (On next items tty) rest = behind items tty (rest next)
then_run (Final last stop) rest = ended last stop

-- The run within so many further steps. A halt in the last step wins over Budget, and what would be barred after the last step is Budget.
unfoldable pub run : ℕ → Machine → Outcome
run zero m = ended m Budget
run (suc n) m = then_run (turn m) (run n)

-- the board's run from reset
abbrev pub board_run : List ℕ → Exe → Sizes → List Entry → ℕ → Outcome
board_run rom exe sizes schedule n = run n (start rom exe sizes schedule)
