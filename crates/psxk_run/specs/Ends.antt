-- How a command ends, in one relation: carried out, or refused.
use Rattle.std.specs.Prelude.{ℕ, List, Option, Ok}
use Rattle.psx_base.specs.declared.host.Out.{Out}
use Rattle.psx_base.specs.declared.host.Out.TheVariants.{Tty, Ram, Report}
use Rattle.psxk_run.specs.declared.inputs.Inputs.{Inputs}
use Rattle.psxk_run.specs.declared.refusal.Refusal.{Refusal}
use Rattle.psx_exe.specs.declared.exe.Exe.{Exe}
use Rattle.abs_run.specs.InTime.{InterruptsInTime}
use Rattle.kern_image.specs.Rom.{rom}
use Rattle.psxk_run.specs.Command.{RunWords, Command, ToRun, ToImage, ToPrint, ToAssemble, ToGenerate}
use Rattle.psxk_run.specs.Commands.{Causes}
use Rattle.psxk_run.specs.Inputs.{IsLoaded, GivesAll, GivesProgram, GivesPlaced, workload_inputs, workload_budget}
use Rattle.psxk_run.specs.Printing.{printing}
use Rattle.psxk_run.specs.Refusals.{line_of, status_of}
use Rattle.psxk_run.specs.Sent.{GrewFront, OnlyReports, Says}
use Rattle.psxk_run.specs.Top.{run_of, IsKernelRun, RunsProgram, MakesText}
use Rattle.psxk_run.specs.InPart.{RunInPart, TextInPart}
use Rattle.psxk_run.specs.Assembling.{assembling}
use Rattle.psx_asm.specs.Assembly.{Placed}

-- what contracts see of a host at a moment
pub record Moment : Type 0 where
  pub holds : List ℕ → Option (List ℕ)
  pub sent : Out → Option (List ℕ)
  pub loads : List ℕ → ℕ
  pub sends : ℕ

abbrev pub moment : {H : Type 0} → (H → List ℕ → Option (List ℕ)) → (H → Out → Option (List ℕ)) → (H → List ℕ → ℕ) → (H → ℕ) → H → Moment
moment holds sent loads sends h = record { holds = holds h; sent = sent h; loads = loads h; sends = sends h }

-- the run of inputs
pub record EndsRun (old new : Moment) (inputs : Inputs) (budget status : ℕ) : Type 0 where
  pub ran : RunsProgram old.sent new.sent old.sends new.sends (run_of inputs budget) status
  pub fronts : RunInPart old.sent new.sent (run_of inputs budget)
  pub kernel : IsKernelRun inputs (run_of inputs budget)
  pub in_time : InterruptsInTime (run_of inputs budget).items

-- the run of the inputs that all files gave
pub record EndsFiles (old new : Moment) (c : RunWords) (status : ℕ) : Type 0 where
  pub inputs : Inputs
  pub given : GivesAll (IsLoaded old.holds) c inputs
  pub run : EndsRun old new inputs c.budget status

-- a text that was made and sent
pub record EndsText (old new : Moment) (out : Out) (text : List ℕ) (status : ℕ) : Type 0 where
  pub sends : MakesText old.sent new.sent old.sends new.sends out text status
  pub front : TextInPart old.sent new.sent out text

-- the printed words of a program
pub record EndsPrinting (old new : Moment) (name : List ℕ) (status : ℕ) : Type 0 where
  pub exe : Exe
  pub given : GivesProgram (IsLoaded old.holds) name (Ok exe)
  pub text : EndsText old new Tty (printing exe) status

-- the program of an assembly text
pub record EndsAssembling (old new : Moment) (name : List ℕ) (status : ℕ) : Type 0 where
  pub placed : Placed
  pub given : GivesPlaced (IsLoaded old.holds) name (Ok placed)
  pub text : EndsText old new Ram (assembling placed) status

-- a command that was carried out
abbrev pub EndsWork : Moment → Moment → Command → ℕ → Type 0
EndsWork old new (ToRun c) status = EndsFiles old new c status
EndsWork old new ToImage status = EndsText old new Ram rom status
EndsWork old new (ToPrint name) status = EndsPrinting old new name status
EndsWork old new (ToAssemble name) status = EndsAssembling old new name status
EndsWork old new (ToGenerate rounds) status = EndsRun old new (workload_inputs rounds) workload_budget status

-- a refusal and its report
pub record EndsRefused (old new : Moment) (c : Command) (status : ℕ) : Type 0 where
  pub refusal : Refusal
  pub cause : Causes old.holds old.loads new.loads c refusal
  pub says : Says old.sent new.sent old.sends new.sends (line_of refusal) (status_of refusal) status
  pub front : GrewFront (old.sent Report) (new.sent Report) (line_of refusal)
  pub only : OnlyReports old.sent new.sent

pub data CommandEnds (old new : Moment) (c : Command) (status : ℕ) : Type 0 where
  ByWork : EndsWork old new c status → CommandEnds old new c status
  ByRefusal : EndsRefused old new c status → CommandEnds old new c status
