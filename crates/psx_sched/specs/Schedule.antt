-- What a schedule is: a list of entries whose counts don't fall. The limits are this project's own.
use Rattle.std.specs.Prelude.{ℕ, ◌≤◌, List, [], ◌∷◌, length}
use Rattle.psx_sched.specs.declared.schedule.What.{What}
use Rattle.psx_sched.specs.declared.schedule.What.TheVariants.{Byte, Line}
use Rattle.psx_sched.specs.declared.schedule.Entry.{Entry}

-- there are the lines 0 to 10
abbrev pub IsLine : What → Type 0
IsLine (Byte b) = Unit {0}
IsLine (Line n) = n ≤ 10

-- an entry that a schedule may hold
pub record IsPlausible (e : Entry) : Type 0 where
  pub count : e.count ≤ 4000000000
  pub line : IsLine e.what

-- the count of the last entry, or another count where there is none
abbrev pub last_count : ℕ → List Entry → ℕ
last_count count [] = count
last_count count (e ∷ es) = last_count e.count es

-- each entry may stand, and no count is below the one before, of which the first is given
abbrev pub IsOrdered : ℕ → List Entry → Type 0
IsOrdered least [] = Unit {0}
IsOrdered least (e ∷ es) = (least ≤ e.count) × IsPlausible e × IsOrdered e.count es

-- at most so many entries, in order
pub record IsSchedule (entries : List Entry) : Type 0 where
  pub few : length entries ≤ 65536
  pub ordered : IsOrdered 0 entries
