-- What the files that a run names give: what its run is made from, or the first fault.
use Rattle.std.specs.Prelude.{◌≡◌, ◌⊎◌, ℕ, ◌≤◌, List, [], take, Option, Some, None, Result, Ok, Err}
use Rattle.psx_base.specs.declared.stop.Sizes.{Sizes}
use Rattle.psx_base.specs.Host.{Rose, IsFront}
use Rattle.psx_sched.specs.declared.schedule.Entry.{Entry}
use Rattle.psx_sched.specs.declared.fault.SchedError.{SchedError}
use Rattle.psx_sched.specs.Accepted.{IsScheduleOf}
use Rattle.psx_exe.specs.declared.exe.Exe.{Exe}
use Rattle.psx_exe.specs.declared.fault.ExeError.{ExeError}
use Rattle.psx_exe.specs.Reading.{read_of}
use Rattle.psx_asm.specs.declared.fault.AsmError.{AsmError}
use Rattle.psx_asm.specs.Assembly.{Placed, IsAssemblyOf}
use Rattle.psx_gen.specs.Workload.{program, blanks}
use Rattle.abs_run.specs.Accepted.{IsAccepted, AreBytes}
use Rattle.psxk_run.specs.declared.configuration.ConfError.{ConfError}
use Rattle.psxk_run.specs.declared.inputs.Inputs.{Inputs}
use Rattle.psxk_run.specs.declared.refusal.Refusal.{Refusal}
use Rattle.psxk_run.specs.declared.refusal.Refusal.TheVariants.{Program, Schedule, Config, Text, Unread, Memory}
use Rattle.psxk_run.specs.Assembling.{window_from, window_to}
use Rattle.psxk_run.specs.Config.{IsConfigOf}
use Rattle.psxk_run.specs.Command.{RunWords}

-- the sizes of the kernel's tables where the words give none
abbrev pub plain_sizes : Sizes
plain_sizes = record { threads = 4; events = 16 }

-- how a name's first bytes are known: as a load gave them, or from what the host tells
abbrev pub IsKnown : Type 1
IsKnown = (limit : ℕ) → (name : List ℕ) → (bytes : List ℕ) → Type 0

-- a load gave these bytes, which are those held, where the host tells
abbrev pub IsLoaded : (List ℕ → Option (List ℕ)) → IsKnown
IsLoaded held limit name bytes = IsFront limit (held name) bytes

-- the host tells what it holds, and these are its first bytes
pub record IsTold (held : List ℕ → Option (List ℕ)) (limit : ℕ) (name bytes : List ℕ) : Type 0 where
  pub all : List ℕ
  pub told : held name ≡ Some all
  pub first : bytes ≡ take limit all

-- the program of a file, or its first fault
pub record GivesProgram (Known : IsKnown) (name : List ℕ) (answer : Result Exe ExeError) : Type 0 where
  pub bytes : List ℕ
  pub known : Known 8388609 name bytes
  pub is : read_of bytes ≡ answer

-- the entries of a schedule's text, or its first fault
pub record GivesEntries (Known : IsKnown) (name : List ℕ) (answer : Result (List Entry) SchedError) : Type 0 where
  pub text : List ℕ
  pub known : Known 4194305 name text
  pub is : IsScheduleOf text answer

-- where no schedule is named it is empty
abbrev pub GivesSchedule : IsKnown → Option (List ℕ) → Result (List Entry) SchedError → Type 0
GivesSchedule Known None answer = answer ≡ Ok []
GivesSchedule Known (Some name) answer = GivesEntries Known name answer

-- the sizes of a configuration's text, or its first fault
pub record GivesNumbers (Known : IsKnown) (name : List ℕ) (answer : Result Sizes ConfError) : Type 0 where
  pub text : List ℕ
  pub known : Known 4194305 name text
  pub is : IsConfigOf text answer

-- where no configuration is named the sizes are the plain ones
abbrev pub GivesSizes : IsKnown → Option (List ℕ) → Result Sizes ConfError → Type 0
GivesSizes Known None answer = answer ≡ Ok plain_sizes
GivesSizes Known (Some name) answer = GivesNumbers Known name answer

-- all files of a run are accepted, and these are the run's inputs
pub record GivesAll (Known : IsKnown) (c : RunWords) (inputs : Inputs) : Type 0 where
  pub program : GivesProgram Known c.name (Ok inputs.exe)
  pub schedule : GivesSchedule Known c.schedule (Ok inputs.schedule)
  pub sizes : GivesSizes Known c.config (Ok inputs.sizes)

-- the program was accepted, and the schedule has a fault
pub record FailsSchedule (Known : IsKnown) (c : RunWords) (fault : SchedError) : Type 0 where
  pub exe : Exe
  pub program : GivesProgram Known c.name (Ok exe)
  pub fails : GivesSchedule Known c.schedule (Err fault)

-- program and schedule were accepted, and the configuration has a fault
pub record FailsConfig (Known : IsKnown) (c : RunWords) (fault : ConfError) : Type 0 where
  pub exe : Exe
  pub program : GivesProgram Known c.name (Ok exe)
  pub entries : List Entry
  pub schedule : GivesSchedule Known c.schedule (Ok entries)
  pub fails : GivesSizes Known c.config (Err fault)

-- what the files of a run give: a run's inputs, or the first fault in the order of program, schedule and configuration
abbrev pub Gives : IsKnown → RunWords → Result Inputs Refusal → Type 0
Gives Known c (Ok inputs) = GivesAll Known c inputs
Gives Known c (Err (Program fault)) = GivesProgram Known c.name (Err fault)
Gives Known c (Err (Schedule fault)) = FailsSchedule Known c fault
Gives Known c (Err (Config fault)) = FailsConfig Known c fault
Gives Known c (Err (Text fault)) = ⊥
Gives Known c (Err (Unread name)) = ⊥
Gives Known c (Err Memory) = ⊥

-- the words give this name for the schedule, and the program was accepted
pub record NamesSchedule (Known : IsKnown) (c : RunWords) (name : List ℕ) : Type 0 where
  pub named : c.schedule ≡ Some name
  pub exe : Exe
  pub program : GivesProgram Known c.name (Ok exe)

-- the words give this name for the configuration, and program and schedule were accepted
pub record NamesConfig (Known : IsKnown) (c : RunWords) (name : List ℕ) : Type 0 where
  pub named : c.config ≡ Some name
  pub exe : Exe
  pub program : GivesProgram Known c.name (Ok exe)
  pub entries : List Entry
  pub schedule : GivesSchedule Known c.schedule (Ok entries)

-- the words give this name to be loaded, and the files before it in the order of program, schedule and configuration were accepted
abbrev pub Names : IsKnown → RunWords → List ℕ → Type 0
Names Known c name = (c.name ≡ name) ⊎ (NamesSchedule Known c name ⊎ NamesConfig Known c name)

-- why a run was refused: the first fault of its files, a load that failed by the host's count and before which no file had a fault, or want of memory, which is free
abbrev pub IsCause : (List ℕ → Option (List ℕ)) → (before now : List ℕ → ℕ) → RunWords → Refusal → Type 0
IsCause held before now c (Unread name) = Names (IsLoaded held) c name.now × Rose (before name.now) (now name.now)
IsCause held before now c Memory = Unit {0}
IsCause held before now c refusal = Gives (IsLoaded held) c (Err refusal)

-- the inputs that a board may be made from, and with which its runs are kernel runs
pub record IsRunnable (inputs : Inputs) : Type 0 where
  pub accepted : IsAccepted inputs.exe
  pub bytes : AreBytes inputs.schedule
  pub threads : (4 ≤ inputs.sizes.threads) × (inputs.sizes.threads ≤ 16)
  pub events : (16 ≤ inputs.sizes.events) × (inputs.sizes.events ≤ 64)

-- what the workload of so many rounds is run with
abbrev pub workload_inputs : ℕ → Inputs
workload_inputs rounds = record { exe = program rounds; schedule = blanks rounds; sizes = plain_sizes }

-- and the most steps that it may take
abbrev pub workload_budget : ℕ
workload_budget = 50000000

-- what an assembly text places in the window, or its first fault
pub record GivesPlaced (Known : IsKnown) (name : List ℕ) (answer : Result Placed AsmError) : Type 0 where
  pub text : List ℕ
  pub known : Known 4194305 name text
  pub is : IsAssemblyOf text window_from window_to answer

-- ---- one load at a time

-- a name wasn't loaded, or memory was wanting
abbrev pub IsUnreadOf : (before now : List ℕ → ℕ) → List ℕ → Refusal → Type 0
IsUnreadOf before now name (Unread other) = (other.now ≡ name) × Rose (before name) (now name)
IsUnreadOf before now name Memory = Unit {0}
IsUnreadOf before now name _ = ⊥

-- why a program wasn't given
abbrev pub OfProgram : (List ℕ → Option (List ℕ)) → (before now : List ℕ → ℕ) → List ℕ → Refusal → Type 0
OfProgram held before now name (Program fault) = GivesProgram (IsLoaded held) name (Err fault)
OfProgram held before now name refusal = IsUnreadOf before now name refusal

-- a schedule
abbrev pub OfSchedule : (List ℕ → Option (List ℕ)) → (before now : List ℕ → ℕ) → Option (List ℕ) → Refusal → Type 0
OfSchedule held before now None refusal = ⊥
OfSchedule held before now (Some name) (Schedule fault) = GivesEntries (IsLoaded held) name (Err fault)
OfSchedule held before now (Some name) refusal = IsUnreadOf before now name refusal

-- sizes
abbrev pub OfSizes : (List ℕ → Option (List ℕ)) → (before now : List ℕ → ℕ) → Option (List ℕ) → Refusal → Type 0
OfSizes held before now None refusal = ⊥
OfSizes held before now (Some name) (Config fault) = GivesNumbers (IsLoaded held) name (Err fault)
OfSizes held before now (Some name) refusal = IsUnreadOf before now name refusal

-- what a text places
abbrev pub OfText : (List ℕ → Option (List ℕ)) → (before now : List ℕ → ℕ) → List ℕ → Refusal → Type 0
OfText held before now name (Text fault) = GivesPlaced (IsLoaded held) name (Err fault)
OfText held before now name refusal = IsUnreadOf before now name refusal
