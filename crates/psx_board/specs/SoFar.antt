-- The first steps of a run, and that a board stands for them.
use Rattle.std.specs.Prelude.{◌≡◌, ℕ, zero, suc, List, [], ◌∷◌, ◌++◌, Option, Some, None}
use Rattle.psx_base.specs.declared.stop.Stop.{Stop}
use Rattle.psx_base.specs.declared.stop.Stop.TheVariants.{Budget}
use Rattle.psx_base.specs.Items.{Item, S}
use Rattle.psx_board.specs.Machine.{Machine}
use Rattle.psx_board.specs.Turn.{Turn, On, Final, turn}
use Rattle.psx_board.specs.Run.{Outcome}
use Rattle.psx_board.specs.Stands.{View, Stands}

-- the lines and console bytes so far, the state, and the stop where there was one
pub record SoFar : Type 0 where
  pub items : List Item
  pub tty : List ℕ
  pub last : Machine
  pub stop : Option Stop

-- a step more; none is made behind a stop
abbrev pub extended : SoFar → Turn → SoFar
extended s (On next items tty) = record { items = s.items ++ items; tty = s.tty ++ tty; last = next; stop = None }
extended s (Final last stop) = record { items = s.items; tty = s.tty; last = last; stop = Some stop }

abbrev pub one_more : SoFar → Option Stop → SoFar
one_more s (Some stop) = s
one_more s None = extended s (turn s.last)

-- the first steps of a run
unfoldable pub so_far : ℕ → Machine → SoFar
so_far zero m = record { items = []; tty = []; last = m; stop = None }
so_far (suc n) m = one_more (so_far n m) (so_far n m).stop

-- a board stands for the first calls of a step from a machine
pub record StandsAfter (b : View) (calls : ℕ) (m : Machine) : Type 0 where
  pub stands : Stands b (so_far calls m).last
  pub stopped : b.stopped ≡ (so_far calls m).stop

-- the run that the first steps are, where no more are made
abbrev closed : List Item → List ℕ → Machine → Option Stop → Outcome
closed items tty last None = record { items = items ++ S last.history.now Budget ∷ []; tty = tty; stop = Budget; last = last }
closed items tty last (Some stop) = record { items = items ++ S last.history.now stop ∷ []; tty = tty; stop = stop; last = last }

abbrev pub closed_run : SoFar → Outcome
closed_run s = closed s.items s.tty s.last s.stop
