-- What a command comes to where nothing hinders it.
use Rattle.std.specs.Prelude.{◌≡◌, ◌⊎◌, ℕ, List, Option, Ok}
use Rattle.psx_base.specs.Host.{Rose}
use Rattle.psx_exe.specs.declared.exe.Exe.{Exe}
use Rattle.psx_asm.specs.Assembly.{Placed}
use Rattle.psxk_run.specs.declared.inputs.Inputs.{Inputs}
use Rattle.psxk_run.specs.Command.{Command, ToRun, ToImage, ToPrint, ToAssemble, ToGenerate}
use Rattle.psxk_run.specs.Inputs.{IsTold, GivesAll, GivesProgram, GivesPlaced, workload_inputs, workload_budget}
use Rattle.psxk_run.specs.Texts.{status_of}
use Rattle.psxk_run.specs.Top.{run_of}

-- no load and no sending failed in this call, by the host's counts
pub record IsUnhindered (loads_before loads_now : List ℕ → ℕ) (sends_before sends_now : ℕ) : Type 0 where
  pub loads : (name : List ℕ) → Rose (loads_before name) (loads_now name) → ⊥
  pub sends : Rose sends_before sends_now → ⊥

-- a command ends with this status, or memory was wanting
abbrev pub EndsWith : (end status : ℕ) → Type 0
EndsWith end status = (status ≡ end) ⊎ (status ≡ 7)

-- A command is done whose files the host tells and have no fault: a run ends as the board's run of what they give, and each other command with 0.
abbrev pub Completes : (List ℕ → Option (List ℕ)) → Command → ℕ → Type 0
Completes held (ToRun c) status = (inputs : Inputs) → GivesAll (IsTold held) c inputs → EndsWith (status_of (run_of inputs c.budget).stop) status
Completes held ToImage status = EndsWith 0 status
Completes held (ToPrint name) status = (exe : Exe) → GivesProgram (IsTold held) name (Ok exe) → EndsWith 0 status
Completes held (ToAssemble name) status = (placed : Placed) → GivesPlaced (IsTold held) name (Ok placed) → EndsWith 0 status
Completes held (ToGenerate rounds) status = EndsWith (status_of (run_of (workload_inputs rounds) workload_budget).stop) status
