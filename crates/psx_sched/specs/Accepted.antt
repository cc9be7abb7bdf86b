-- The accepted schedule that a text is, or its first fault. The limits are this project's own.
use Rattle.std.specs.Prelude.{◌≡◌, ◌≢◌, ℕ, ◌+◌, ◌<◌, ◌≤◌, List, [], ◌++◌, length, All, Result, Ok, Err}
use Rattle.psx_sched.specs.declared.schedule.What.{What}
use Rattle.psx_sched.specs.declared.schedule.What.TheVariants.{Byte, Line}
use Rattle.psx_sched.specs.declared.schedule.Entry.{Entry}
use Rattle.psx_sched.specs.declared.fault.SchedError.{SchedError}
use Rattle.psx_sched.specs.declared.fault.SchedError.TheVariants.{TooLong, BadLine, OutOfOrder, TooMany, Memory}
use Rattle.psx_sched.specs.Schedule.{IsPlausible, IsSchedule, last_count}
use Rattle.psx_sched.specs.Line.{line, lines_of}

-- the most bytes that a text may have
abbrev pub longest : ℕ
longest = 4194304

-- the most lines that a text may have
abbrev pub most : ℕ
most = 65536

-- a byte is below 256
abbrev pub IsByte : What → Type 0
IsByte (Byte b) = b < 256
IsByte (Line n) = Unit {0}

-- an entry that a line can tell of
pub record IsTold (e : Entry) : Type 0 where
  pub plausible : IsPlausible e
  pub byte : IsByte e.what

-- a text begins with the line of an entry
abbrev pub BeginsWith : List ℕ → Entry → Type 0
BeginsWith text entry = (rest : List ℕ) × (text ≡ line entry ++ rest)

-- a text begins with a line of another form, or with a rest that has no line feed
abbrev pub BeginsWithNone : List ℕ → Type 0
BeginsWithNone text = (entry : Entry) → IsTold entry → ¬ BeginsWith text entry

-- a text is the lines of a schedule's entries, and a rest behind them
pub record IsLinesThen (text : List ℕ) (entries : List Entry) (rest : List ℕ) : Type 0 where
  pub schedule : IsSchedule entries
  pub bytes : All (λ e. IsByte e.what) entries
  pub is : text ≡ lines_of entries ++ rest

-- what is wrong with a line that stands behind the lines of entries, at the beginning of a rest:
-- there may be no more lines, or it has another form, or its count is less than the one before
abbrev pub IsLineFault : List Entry → List ℕ → SchedError → Type 0
IsLineFault before rest TooMany = length before ≡ most
IsLineFault before rest (BadLine number) = (length before < most) × (number ≡ length before + 1) × BeginsWithNone rest
IsLineFault before rest (OutOfOrder number) =
    (length before < most) × (number ≡ length before + 1) × ((late : Entry) × IsTold late × BeginsWith rest late × (late.count < last_count 0 before))
IsLineFault before rest (TooLong limit) = ⊥
IsLineFault before rest Memory = ⊥

-- the first line that is faulty: those before it are the lines of a schedule
pub record IsFirstFault (text : List ℕ) (fault : SchedError) : Type 0 where
  pub before : List Entry
  pub rest : List ℕ
  pub split : IsLinesThen text before rest
  pub some : rest ≢ []
  pub wrong : IsLineFault before rest fault

-- the entries whose lines a text is, or the text's first fault, of which its length comes first
abbrev pub IsScheduleOf : List ℕ → Result (List Entry) SchedError → Type 0
IsScheduleOf text (Ok entries) = (length text ≤ longest) × IsLinesThen text entries []
IsScheduleOf text (Err (TooLong limit)) = (longest < length text) × (limit ≡ longest)
IsScheduleOf text (Err fault) = (length text ≤ longest) × IsFirstFault text fault

-- each text is one schedule, or has one first fault
abbrev pub HasOneAnswer : List ℕ → Type 0
HasOneAnswer text = (answer : Result (List Entry) SchedError) × IsScheduleOf text answer × ((other : Result (List Entry) SchedError) → IsScheduleOf text other → other ≡ answer)
