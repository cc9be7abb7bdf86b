-- What the files of each command give, and what its words ask to be loaded.
use Rattle.std.specs.Prelude.{◌≡◌, ◌⊎◌, ℕ, ◌≤◌, List, Option, Result, Ok, Err}
use Rattle.psx_exe.specs.declared.exe.Exe.{Exe}
use Rattle.psx_exe.specs.declared.fault.ExeError.{ExeError}
use Rattle.psxk_run.specs.declared.inputs.Inputs.{Inputs}
use Rattle.psxk_run.specs.declared.refusal.Refusal.{Refusal}
use Rattle.psxk_run.specs.declared.refusal.Refusal.TheVariants.{Program, Text, Memory}
use Rattle.psxk_run.specs.Command.{Command, ToRun, ToImage, ToPrint, ToAssemble, ToGenerate}
use Rattle.psxk_run.specs.Inputs.{IsKnown, IsTold, Names, Gives, GivesProgram, IsCause, OfProgram, GivesPlaced, OfText}
use Rattle.psxk_run.specs.Refusals.{status_of}
use Rattle.psx_asm.specs.declared.fault.AsmError.{AsmError}
use Rattle.psx_asm.specs.Assembly.{Placed}

-- the words give this name to be loaded, and the files before it were accepted
abbrev pub Loads : IsKnown → Command → List ℕ → Type 0
Loads Known (ToRun c) name = Names Known c name
Loads Known ToImage name = ⊥
Loads Known (ToPrint exe) name = exe ≡ name
Loads Known (ToAssemble text) name = text ≡ name
Loads Known (ToGenerate rounds) name = ⊥

-- the program of `dis` has a fault
abbrev pub RefusesProgram : IsKnown → List ℕ → Refusal → Type 0
RefusesProgram Known name (Program fault) = GivesProgram Known name (Err fault)
RefusesProgram Known name _ = ⊥

-- the text of `asm` has a fault
abbrev pub RefusesText : IsKnown → List ℕ → Refusal → Type 0
RefusesText Known name (Text fault) = GivesPlaced Known name (Err fault)
RefusesText Known name _ = ⊥

-- the files of a command have a fault, and this is the first
abbrev pub Refuses : IsKnown → Command → Refusal → Type 0
Refuses Known (ToRun c) refusal = Gives Known c (Err refusal)
Refuses Known ToImage refusal = ⊥
Refuses Known (ToPrint name) refusal = RefusesProgram Known name refusal
Refuses Known (ToAssemble name) refusal = RefusesText Known name refusal
Refuses Known (ToGenerate rounds) refusal = ⊥

-- the workload is refused for want of memory alone
abbrev pub OfWorkload : Refusal → Type 0
OfWorkload Memory = Unit {0}
OfWorkload _ = ⊥

-- why a command was refused: a fault of a file, a load that failed by the host's count, or want of memory
abbrev pub Causes : (List ℕ → Option (List ℕ)) → (before now : List ℕ → ℕ) → Command → Refusal → Type 0
Causes held before now (ToRun c) refusal = IsCause held before now c refusal
Causes held before now ToImage refusal = ⊥
Causes held before now (ToPrint name) refusal = OfProgram held before now name refusal
Causes held before now (ToAssemble name) refusal = OfText held before now name refusal
Causes held before now (ToGenerate rounds) refusal = OfWorkload refusal

-- a load or a send failed, or memory was wanting
abbrev pub IsHindered : ℕ → Type 0
IsHindered status = (status ≡ 5) ⊎ ((status ≡ 6) ⊎ (status ≡ 7))

-- the status that a run's files have which give this, where nothing hinders
abbrev pub Answers : Result Inputs Refusal → ℕ → Type 0
Answers (Ok inputs) status = (status ≤ 1) ⊎ IsHindered status
Answers (Err refusal) status = (status ≡ status_of refusal) ⊎ IsHindered status

-- and that of `dis`
abbrev pub AnswersProgram : Result Exe ExeError → ℕ → Type 0
AnswersProgram (Ok exe) status = (status ≡ 0) ⊎ IsHindered status
AnswersProgram (Err fault) status = (status ≡ 3) ⊎ IsHindered status

-- and that of `asm`
abbrev pub AnswersText : Result Placed AsmError → ℕ → Type 0
AnswersText (Ok placed) status = (status ≡ 0) ⊎ IsHindered status
AnswersText (Err fault) status = (status ≡ 8) ⊎ IsHindered status

-- the status of a command is the one that its files decide, where the host tells them and nothing hinders
abbrev pub Decides : (List ℕ → Option (List ℕ)) → Command → ℕ → Type 0
Decides held (ToRun c) status = (answer : Result Inputs Refusal) → Gives (IsTold held) c answer → Answers answer status
Decides held ToImage status = (status ≡ 0) ⊎ IsHindered status
Decides held (ToPrint name) status = (answer : Result Exe ExeError) → GivesProgram (IsTold held) name answer → AnswersProgram answer status
Decides held (ToAssemble name) status = (answer : Result Placed AsmError) → GivesPlaced (IsTold held) name answer → AnswersText answer status
Decides held (ToGenerate rounds) status = (status ≤ 1) ⊎ IsHindered status
