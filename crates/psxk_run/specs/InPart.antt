-- What a top call has sent in every case, also where a sending failed: on each output a front of its text. A whole text is a front of itself.
use Rattle.std.specs.Prelude.{◌≡◌, ◌⊎◌, ℕ, List, Option, Some, None, Ok}
use Rattle.psx_base.specs.declared.host.Out.{Out}
use Rattle.psx_base.specs.declared.host.Out.TheVariants.{Tty, Trace, Ram, Report}
use Rattle.psx_base.specs.Host.{Rose}
use Rattle.psx_board.specs.Run.{Outcome}
use Rattle.psxk_run.specs.declared.inputs.Inputs.{Inputs}
use Rattle.psxk_run.specs.declared.refusal.Refusal.{Refusal}
use Rattle.psx_exe.specs.declared.exe.Exe.{Exe}
use Rattle.kern_image.specs.Rom.{rom}
use Rattle.psxk_run.specs.Command.{RunWords, Command, ToRun, ToImage, ToPrint, ToAssemble, ToGenerate}
use Rattle.psxk_run.specs.Commands.{Loads, Refuses}
use Rattle.psxk_run.specs.Inputs.{IsLoaded, GivesAll, GivesProgram, GivesPlaced, workload_inputs, workload_budget}
use Rattle.psxk_run.specs.Refusals.{line_of}
use Rattle.psxk_run.specs.Printing.{printing}
use Rattle.psxk_run.specs.Sent.{Grew, GrewFront, OnlyReports, FrontAlone}
use Rattle.psxk_run.specs.Texts.{trace_text, ram_text, report_of}
use Rattle.psxk_run.specs.Reports.{memory_line, read_line, usage_line}
use Rattle.psxk_run.specs.Top.{run_of}
use Rattle.psxk_run.specs.Assembling.{assembling}
use Rattle.psx_asm.specs.Assembly.{Placed}

-- of one line a front was reported, and nothing else was sent
pub record ReportsFront (before now : Out → Option (List ℕ)) (line : List ℕ) : Type 0 where
  pub only : OnlyReports before now
  pub report : GrewFront (before Report) (now Report) line

-- of each text of a run a front was sent; of the memory a byte only where Tty and Trace are whole, and of the report only where all three are
pub record HasFronts (before now : Out → Option (List ℕ)) (o : Outcome) : Type 0 where
  pub tty : GrewFront (before Tty) (now Tty) o.tty
  pub trace : GrewFront (before Trace) (now Trace) (trace_text o.items)
  pub ram : GrewFront (before Ram) (now Ram) (ram_text o.last.core.bytes)
  pub late : (now Ram ≡ before Ram) ⊎ (Grew (before Tty) (now Tty) o.tty × Grew (before Trace) (now Trace) (trace_text o.items))
  pub last : (now Report ≡ before Report) ⊎ (Grew (before Tty) (now Tty) o.tty × Grew (before Trace) (now Trace) (trace_text o.items) × Grew (before Ram) (now Ram) (ram_text o.last.core.bytes))
  pub report : GrewFront (before Report) (now Report) (report_of o.stop)

-- of a run's texts fronts were sent, or of the line of want of memory
abbrev pub RunInPart : (Out → Option (List ℕ)) → (Out → Option (List ℕ)) → Outcome → Type 0
RunInPart before now o = HasFronts before now o ⊎ ReportsFront before now memory_line

-- all files were loaded and accepted, and of the run's texts fronts were sent
pub record RanInPart {H : Type 0} (holds : H → List ℕ → Option (List ℕ)) (sent : H → Out → Option (List ℕ)) (old new : H) (c : RunWords) : Type 0 where
  pub inputs : Inputs
  pub given : GivesAll (IsLoaded (holds old)) c inputs
  pub texts : RunInPart (sent old) (sent new) (run_of inputs c.budget)

-- of the one text of a command a front was sent and nothing else, or of the line of want of memory
abbrev pub TextInPart : (Out → Option (List ℕ)) → (Out → Option (List ℕ)) → Out → List ℕ → Type 0
TextInPart before now out text = FrontAlone before now out text ⊎ ReportsFront before now memory_line

-- the program was loaded and accepted, and of its printed words a front was sent
pub record PrintedInPart {H : Type 0} (holds : H → List ℕ → Option (List ℕ)) (sent : H → Out → Option (List ℕ)) (old new : H) (name : List ℕ) : Type 0 where
  pub exe : Exe
  pub given : GivesProgram (IsLoaded (holds old)) name (Ok exe)
  pub text : TextInPart (sent old) (sent new) Tty (printing exe)

-- the assembly text was loaded and accepted, and of its PS-EXE a front was sent
pub record AssembledInPart {H : Type 0} (holds : H → List ℕ → Option (List ℕ)) (sent : H → Out → Option (List ℕ)) (old new : H) (name : List ℕ) : Type 0 where
  pub placed : Placed
  pub given : GivesPlaced (IsLoaded (holds old)) name (Ok placed)
  pub text : TextInPart (sent old) (sent new) Ram (assembling placed)

-- what is sent of a command that isn't refused
abbrev pub DoneInPart : {H : Type 0} → (H → List ℕ → Option (List ℕ)) → (H → Out → Option (List ℕ)) → H → H → Command → Type 0
DoneInPart holds sent old new (ToRun c) = RanInPart holds sent old new c
DoneInPart holds sent old new ToImage = TextInPart (sent old) (sent new) Ram rom
DoneInPart holds sent old new (ToPrint name) = PrintedInPart holds sent old new name
DoneInPart holds sent old new (ToAssemble name) = AssembledInPart holds sent old new name
DoneInPart holds sent old new (ToGenerate rounds) = RunInPart (sent old) (sent new) (run_of (workload_inputs rounds) workload_budget)

-- the files that were loaded have a fault, and of its line a front was reported
pub record RefusedInPart {H : Type 0} (holds : H → List ℕ → Option (List ℕ)) (sent : H → Out → Option (List ℕ)) (old new : H) (c : Command) : Type 0 where
  pub refusal : Refusal
  pub given : Refuses (IsLoaded (holds old)) c refusal
  pub report : ReportsFront (sent old) (sent new) (line_of refusal)

-- a name that the words give wasn't loaded, though the files before it were accepted: its count rose, and of its line a front was reported
pub record UnreadInPart {H : Type 0} (holds : H → List ℕ → Option (List ℕ)) (load_faults : H → List ℕ → ℕ) (sent : H → Out → Option (List ℕ)) (old new : H) (c : Command) : Type 0 where
  pub name : List ℕ
  pub named : Loads (IsLoaded (holds old)) c name
  pub rose : Rose (load_faults old name) (load_faults new name)
  pub report : ReportsFront (sent old) (sent new) (read_line name)

-- what a command has sent
pub data SentInPart {H : Type 0} (holds : H → List ℕ → Option (List ℕ)) (load_faults : H → List ℕ → ℕ) (sent : H → Out → Option (List ℕ)) (old new : H) (c : Command) : Type 0 where
  InWork : DoneInPart holds sent old new c → SentInPart holds load_faults sent old new c
  InFault : RefusedInPart holds sent old new c → SentInPart holds load_faults sent old new c
  InRead : UnreadInPart holds load_faults sent old new c → SentInPart holds load_faults sent old new c
  InMemory : ReportsFront (sent old) (sent new) memory_line → SentInPart holds load_faults sent old new c

-- what was sent for the words
abbrev pub WordsInPart : {H : Type 0} → (H → List ℕ → Option (List ℕ)) → (H → List ℕ → ℕ) → (H → Out → Option (List ℕ)) → H → H → Option Command → Type 0
WordsInPart holds load_faults sent old new None = ReportsFront (sent old) (sent new) usage_line
WordsInPart holds load_faults sent old new (Some c) = SentInPart holds load_faults sent old new c
