-- How the entries of a schedule reach the ports.
use Rattle.std.specs.Prelude.{ℕ, Bool, nat_le, List, [], ◌∷◌, if◌then◌else◌}
use Rattle.psx_sched.specs.declared.schedule.What.{What}
use Rattle.psx_sched.specs.declared.schedule.What.TheVariants.{Byte, Line}
use Rattle.psx_sched.specs.declared.schedule.Entry.{Entry}
use Rattle.psx_ports.specs.History.{History, Raise, Give, then_event}
use Rattle.psx_ports.specs.History as Ports
use Rattle.psx_board.specs.Machine.{Machine}

-- the first entries whose count has come
abbrev pub due : ℕ → List Entry → List Entry
due count [] = []
due count (e ∷ es) = if nat_le e.count count then e ∷ due count es else []

-- and those behind them
abbrev pub later : ℕ → List Entry → List Entry
later count [] = []
later count (e ∷ es) = if nat_le e.count count then later count es else e ∷ es

-- a byte is given to the console, a line is raised
abbrev pub arrived : History → What → History
arrived h (Byte byte) = then_event h (Give h.now byte)
arrived h (Line line) = then_event h (Raise h.now line)

-- entries reach the ports in order
abbrev pub all_arrived : History → List Entry → History
all_arrived h [] = h
all_arrived h (e ∷ es) = all_arrived (arrived h e.what) es

-- the board with the entries delivered whose count has come
abbrev pub delivered : Machine → Machine
delivered m = record m { history = all_arrived m.history (due m.history.now m.waiting); waiting = later m.history.now m.waiting }

-- whether a line that isn't masked is pending, as the coming step finds it
abbrev pub line : Machine → Bool
line m = Ports.line (delivered m).history
