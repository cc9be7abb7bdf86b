-- What the words of the command line ask for.
use Rattle.std.specs.Prelude.{ℕ, ◌+◌, ◌*◌, ◌-◌, List, [], ◌∷◌, Option, Some, None, if◌then◌else◌, ◌&&◌, nat_le, ◌==◌, codes}
use Rattle.std.specs.Option.{option_map}
use Rattle.std.specs.Str.{bytes_eq}

-- the number that the digits give behind a number that was read, where they are digits and it is at most 4,000,000,000
abbrev pub value_of : ℕ → List ℕ → Option ℕ
value_of before [] = if nat_le before 4000000000 then Some before else None
value_of before (digit ∷ rest) =
    if nat_le before 4000000000 && (nat_le 48 digit && nat_le digit 57) then value_of (before * 10 + (digit - 48)) rest else None

-- a decimal number from 1 to 4,000,000,000 without sign and leading zeros
abbrev pub budget_of : List ℕ → Option ℕ
budget_of [] = None
budget_of (first ∷ rest) = if first == 48 then None else value_of 0 (first ∷ rest)

-- a number that is at most 1,000
abbrev pub few : Option ℕ → Option ℕ
few None = None
few (Some n) = if nat_le n 1000 then Some n else None

-- a decimal number from 1 to 1,000 without sign and leading zeros
abbrev pub rounds_of : List ℕ → Option ℕ
rounds_of word = few (budget_of word)

-- a run: the names of a program, of a schedule and of a configuration, where they are loaded, and a budget
pub record RunWords : Type 0 where
  pub name : List ℕ
  pub schedule : Option (List ℕ)
  pub budget : ℕ
  pub config : Option (List ℕ)

-- the commands
pub data Command : Type 0 where
  ToRun : RunWords → Command
  ToImage : Command
  ToPrint : (name : List ℕ) → Command
  ToAssemble : (name : List ℕ) → Command
  ToGenerate : (rounds : ℕ) → Command

-- the word `-` is the empty schedule, and loads nothing
abbrev pub schedule_of : List ℕ → Option (List ℕ)
schedule_of word = if bytes_eq word (codes "-") then None else Some word

-- one word: `image`
abbrev pub alone : List ℕ → Option Command
alone word = if bytes_eq word (codes "image") then Some ToImage else None

-- two words: `dis EXE`, `asm TEXT` and `gen N`
abbrev pub with_name : List ℕ → List ℕ → Option Command
with_name word name =
    if bytes_eq word (codes "dis") then Some (ToPrint name) else
    (if bytes_eq word (codes "asm") then Some (ToAssemble name) else (if bytes_eq word (codes "gen") then option_map ToGenerate (rounds_of name) else None))

abbrev pub asked : List ℕ → List ℕ → Option (List ℕ) → Option ℕ → Option Command
asked name schedule config None = None
asked name schedule config (Some n) = Some (ToRun (record { name = name; schedule = schedule_of schedule; budget = n; config = config }))

-- `run EXE SCHED BUDGET` and `run EXE SCHED BUDGET CNF`
abbrev pub with_files : List ℕ → List ℕ → List ℕ → List ℕ → Option (List ℕ) → Option Command
with_files word name schedule number config = if bytes_eq word (codes "run") then asked name schedule config (budget_of number) else None

-- what words ask for, if anything
unfoldable pub command_of : List (List ℕ) → Option Command
command_of (word ∷ []) = alone word
command_of (word ∷ name ∷ []) = with_name word name
command_of (word ∷ name ∷ schedule ∷ number ∷ []) = with_files word name schedule number None
command_of (word ∷ name ∷ schedule ∷ number ∷ config ∷ []) = with_files word name schedule number (Some config)
command_of _ = None
