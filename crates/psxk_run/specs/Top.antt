-- What the top call leaves.
use Rattle.std.specs.Prelude.{◌≡◌, ◌⊎◌, ℕ, ◌≤◌, List, Option, Ok}
use Rattle.psx_base.specs.declared.host.Out.{Out}
use Rattle.psx_base.specs.declared.host.Out.TheVariants.{Tty, Trace, Ram, Report}
use Rattle.psx_base.specs.Host.{Rose}
use Rattle.psx_exe.specs.declared.exe.Exe.{Exe}
use Rattle.psx_board.specs.Run.{Outcome, board_run}
use Rattle.abs_run.specs.KernelRun.{KernelRun}
use Rattle.abs_run.specs.InTime.{InterruptsInTime}
use Rattle.kern_image.specs.Rom.{rom}
use Rattle.psxk_run.specs.declared.inputs.Inputs.{Inputs}
use Rattle.psxk_run.specs.declared.refusal.Refusal.{Refusal}
use Rattle.psxk_run.specs.Command.{RunWords, Command, ToRun, ToImage, ToPrint, ToAssemble, ToGenerate}
use Rattle.psxk_run.specs.Commands.{Loads, Refuses}
use Rattle.psxk_run.specs.Inputs.{IsLoaded, GivesAll, GivesProgram, GivesPlaced, workload_inputs, workload_budget}
use Rattle.psxk_run.specs.Refusals.{line_of}
use Rattle.psxk_run.specs.Refusals as refusals
use Rattle.psxk_run.specs.Printing.{printing}
use Rattle.psxk_run.specs.Sent.{Grew, OnlyReports, SentAlone, SendsText}
use Rattle.psxk_run.specs.Texts.{trace_text, ram_text, report_of, status_of}
use Rattle.psxk_run.specs.Reports.{memory_line, read_line}
use Rattle.psxk_run.specs.Assembling.{assembling}
use Rattle.psx_asm.specs.Assembly.{Placed}

-- each output has the text of this run more
pub record HasTexts (before now : Out → Option (List ℕ)) (o : Outcome) : Type 0 where
  pub tty : Grew (before Tty) (now Tty) o.tty
  pub trace : Grew (before Trace) (now Trace) (trace_text o.items)
  pub ram : Grew (before Ram) (now Ram) (ram_text o.last.core.bytes)
  pub report : Grew (before Report) (now Report) (report_of o.stop)

-- the board's run of a program with the image, within a budget
abbrev pub run_of : Inputs → ℕ → Outcome
run_of inputs budget = board_run rom inputs.exe inputs.sizes inputs.schedule budget

-- a run of the board is a run of the written kernel machine with the same program and sizes: of its items, its console bytes and the user's memory at its end
abbrev pub IsKernelRun : Inputs → Outcome → Type 0
IsKernelRun inputs o = KernelRun inputs.exe inputs.sizes o.items o.tty o.last.core.bytes

-- what the board's run of these inputs within the budget sends was sent; that run is one of the kernel machine, and its interrupts return in time
pub record Ran {H : Type 0} (sent : H → Out → Option (List ℕ)) (old new : H) (inputs : Inputs) (budget : ℕ) (status : ℕ) : Type 0 where
  pub texts : HasTexts (sent old) (sent new) (run_of inputs budget)
  pub success : status ≡ status_of (run_of inputs budget).stop
  pub kernel : IsKernelRun inputs (run_of inputs budget)
  pub in_time : InterruptsInTime (run_of inputs budget).items

-- all files were loaded and accepted, and run
pub record RanFiles {H : Type 0} (holds : H → List ℕ → Option (List ℕ)) (sent : H → Out → Option (List ℕ)) (old new : H) (c : RunWords) (status : ℕ) : Type 0 where
  pub inputs : Inputs
  pub given : GivesAll (IsLoaded (holds old)) c inputs
  pub ran : Ran sent old new inputs c.budget status

-- the program was loaded and accepted, and the printed words of its text were sent and nothing else
pub record Printed {H : Type 0} (holds : H → List ℕ → Option (List ℕ)) (sent : H → Out → Option (List ℕ)) (old new : H) (name : List ℕ) (status : ℕ) : Type 0 where
  pub exe : Exe
  pub given : GivesProgram (IsLoaded (holds old)) name (Ok exe)
  pub text : SentAlone (sent old) (sent new) Tty (printing exe)
  pub success : status ≡ 0

-- the assembly text was loaded and accepted, and the PS-EXE of what it places was sent and nothing else
pub record Assembled {H : Type 0} (holds : H → List ℕ → Option (List ℕ)) (sent : H → Out → Option (List ℕ)) (old new : H) (name : List ℕ) (status : ℕ) : Type 0 where
  pub placed : Placed
  pub given : GivesPlaced (IsLoaded (holds old)) name (Ok placed)
  pub text : SentAlone (sent old) (sent new) Ram (assembling placed)
  pub success : status ≡ 0

-- what was done for a command: its run, or its text was sent and nothing else
abbrev pub IsDone : {H : Type 0} → (H → List ℕ → Option (List ℕ)) → (H → Out → Option (List ℕ)) → H → H → Command → ℕ → Type 0
IsDone holds sent old new (ToRun c) status = RanFiles holds sent old new c status
IsDone holds sent old new ToImage status = (status ≡ 0) × SentAlone (sent old) (sent new) Ram rom
IsDone holds sent old new (ToPrint name) status = Printed holds sent old new name status
IsDone holds sent old new (ToAssemble name) status = Assembled holds sent old new name status
IsDone holds sent old new (ToGenerate rounds) status = Ran sent old new (workload_inputs rounds) workload_budget status

-- the files that were loaded have a fault, and the first one was reported with its status
pub record IsRefused {H : Type 0} (holds : H → List ℕ → Option (List ℕ)) (sent : H → Out → Option (List ℕ)) (old new : H) (c : Command) (status : ℕ) : Type 0 where
  pub refusal : Refusal
  pub given : Refuses (IsLoaded (holds old)) c refusal
  pub success : status ≡ refusals.status_of refusal
  pub report : Grew (sent old Report) (sent new Report) (line_of refusal)

-- a name that the words give wasn't loaded, though the files before it were accepted: its count rose, and it was reported
pub record IsUnread {H : Type 0} (holds : H → List ℕ → Option (List ℕ)) (load_faults : H → List ℕ → ℕ) (sent : H → Out → Option (List ℕ)) (old new : H) (c : Command) : Type 0 where
  pub name : List ℕ
  pub named : Loads (IsLoaded (holds old)) c name
  pub rose : Rose (load_faults old name) (load_faults new name)
  pub report : Grew (sent old Report) (sent new Report) (read_line name)

-- a status that is answered
abbrev pub IsStatus : ℕ → Type 0
IsStatus status = status ≤ 9

-- a status of a fault in a file
abbrev pub IsFaulty : ℕ → Type 0
IsFaulty status = (status ≡ 3) ⊎ ((status ≡ 4) ⊎ ((status ≡ 8) ⊎ (status ≡ 9)))

-- a status that comes with its report alone
abbrev pub IsQuiet : ℕ → Type 0
IsQuiet status = IsFaulty status ⊎ ((status ≡ 5) ⊎ (status ≡ 7))

-- how a run on a board ends: with its texts sent, or where a sending failed
abbrev pub RunsBoard : (Out → Option (List ℕ)) → (Out → Option (List ℕ)) → ℕ → ℕ → Outcome → ℕ → Type 0
RunsBoard before now faults_before faults_now o status =
    ((status ≡ status_of o.stop) × HasTexts before now o) ⊎ ((status ≡ 6) × Rose faults_before faults_now)

-- only want of memory was reported
abbrev pub WantsMemory : (Out → Option (List ℕ)) → (Out → Option (List ℕ)) → ℕ → Type 0
WantsMemory before now status = (status ≡ 7) × OnlyReports before now × Grew (before Report) (now Report) memory_line

-- how a run of a program ends: as one on a board, or for want of memory with nothing sent but the report
abbrev pub RunsProgram : (Out → Option (List ℕ)) → (Out → Option (List ℕ)) → ℕ → ℕ → Outcome → ℕ → Type 0
RunsProgram before now faults_before faults_now o status =
    WantsMemory before now status ⊎ RunsBoard before now faults_before faults_now o status

-- how a text is sent that has to be made first: sent, or where a sending failed, or for want of memory with nothing sent but the report
abbrev pub MakesText : (Out → Option (List ℕ)) → (Out → Option (List ℕ)) → ℕ → ℕ → Out → List ℕ → ℕ → Type 0
MakesText before now faults_before faults_now out text status =
    WantsMemory before now status ⊎ SendsText before now faults_before faults_now out text status
