-- What a host tells of a file has one answer, which is that of the file's load.
use Rattle.std.proofs.Common.{◌≡◌, ◌⊎◌, ℕ, ◌≤◌, List, Option, None, Some, Result, Ok, Err, sym, ap, subst, ◌∙◌, inl, inr}
use Rattle.psx_base.specs.declared.stop.Sizes.{Sizes}
use Rattle.psx_base.specs.Host.{IsFront}
use Rattle.psx_sched.specs.declared.schedule.Entry.{Entry}
use Rattle.psx_sched.specs.declared.fault.SchedError.{SchedError}
use Rattle.psx_sched.proofs.OneAnswer as schedules
use Rattle.psx_exe.specs.declared.exe.Exe.{Exe}
use Rattle.psx_exe.specs.declared.fault.ExeError.{ExeError}
use Rattle.psx_exe.specs.Reading.{read_of}
use Rattle.psxk_run.specs.declared.configuration.ConfError.{ConfError}
use Rattle.psxk_run.specs.declared.inputs.Inputs.{Inputs}
use Rattle.psxk_run.specs.declared.refusal.Refusal.{Refusal}
use Rattle.psxk_run.specs.declared.refusal.Refusal.TheVariants.{Program, Schedule, Config, Unread, Memory, Text}
use Rattle.psx_board.specs.Run.{board_run}
use Rattle.kern_image.specs.Rom.{rom}
use Rattle.psxk_run.specs.Command.{RunWords}
use Rattle.psxk_run.specs.Commands.{IsHindered, Answers, AnswersProgram, AnswersText}
use Rattle.psxk_run.specs.Inputs.{IsLoaded, IsTold, GivesProgram, GivesEntries, GivesSchedule, GivesNumbers, GivesSizes, GivesAll, Gives, IsCause, OfProgram, GivesPlaced, OfText}
use Rattle.psxk_run.specs.Refusals.{status_of}
use Rattle.psxk_run.specs.Top.{run_of}
use Rattle.psxk_run.proofs.ConfigAnswer as configurations
use Rattle.psxk_run.specs.Assembling.{window_from, window_to}
use Rattle.psx_asm.specs.declared.fault.AsmError.{AsmError}
use Rattle.psx_asm.specs.Assembly.{Placed}
use Rattle.psx_asm.proofs.Whole.{each_text}

told-loaded : (held : List ℕ → Option (List ℕ)) (limit : ℕ) (name a b : List ℕ) → IsTold held limit name a → IsLoaded held limit name b → a ≡ b
told-loaded held limit name a b t l = t.first ∙ sym (subst (λ (o : Option (List ℕ)). IsFront limit o b) t.told l)

program-same : (held : List ℕ → Option (List ℕ)) (name : List ℕ) (a b : Result Exe ExeError) → GivesProgram (IsTold held) name a → GivesProgram (IsLoaded held) name b → a ≡ b
program-same held name a b t l = sym t.is ∙ ap read_of (told-loaded held 8388609 name t.bytes l.bytes t.known l.known) ∙ l.is

entries-same : (held : List ℕ → Option (List ℕ)) (name : List ℕ) (a b : Result (List Entry) SchedError) → GivesEntries (IsTold held) name a → GivesEntries (IsLoaded held) name b → a ≡ b
entries-same held name a b t l = schedules.one_answer l.text a b (rw (← told-loaded held 4194305 name t.text l.text t.known l.known) t.is) l.is

schedule-same : (held : List ℕ → Option (List ℕ)) (name : Option (List ℕ)) (a b : Result (List Entry) SchedError) → GivesSchedule (IsTold held) name a → GivesSchedule (IsLoaded held) name b → a ≡ b
schedule-same held None a b t l = t ∙ sym l
schedule-same held (Some name) a b t l = entries-same held name a b t l

numbers-same : (held : List ℕ → Option (List ℕ)) (name : List ℕ) (a b : Result Sizes ConfError) → GivesNumbers (IsTold held) name a → GivesNumbers (IsLoaded held) name b → a ≡ b
numbers-same held name a b t l = configurations.one_answer l.text a b (rw (← told-loaded held 4194305 name t.text l.text t.known l.known) t.is) l.is

sizes-same : (held : List ℕ → Option (List ℕ)) (name : Option (List ℕ)) (a b : Result Sizes ConfError) → GivesSizes (IsTold held) name a → GivesSizes (IsLoaded held) name b → a ≡ b
sizes-same held None a b t l = t ∙ sym l
sizes-same held (Some name) a b t l = numbers-same held name a b t l

ok-err : {A E : Type 0} {x : A} {e : E} {P : Type 0} → ◌≡◌ {A = Result A E} (Ok x) (Err e) → P
ok-err h = absurd cc

ok-same : {A E : Type 0} {x y : A} → ◌≡◌ {A = Result A E} (Ok x) (Ok y) → x ≡ y
ok-same h = cc

pub run-same : (held : List ℕ → Option (List ℕ)) (c : RunWords) (a b : Inputs) → GivesAll (IsTold held) c a → GivesAll (IsLoaded held) c b → run_of a c.budget ≡ run_of b c.budget
run-same held c a b t l =
    let exe = ok-same (program-same held c.name (Ok a.exe) (Ok b.exe) t.program l.program) in
    let sizes = ok-same (sizes-same held c.config (Ok a.sizes) (Ok b.sizes) t.sizes l.sizes) in
    let schedule = ok-same (schedule-same held c.schedule (Ok a.schedule) (Ok b.schedule) t.schedule l.schedule) in
    ap (λ (x : Exe). board_run rom x a.sizes a.schedule c.budget) exe ∙ ap (λ (x : Sizes). board_run rom b.exe x a.schedule c.budget) sizes
    ∙ ap (λ (x : List Entry). board_run rom b.exe b.sizes x c.budget) schedule

-- ---- what files decide

hindered : (result : ℕ) → (result ≡ 6) ⊎ (result ≡ 7) → IsHindered result
hindered result (inl e) = inr (inl e)
hindered result (inr e) = inr (inr e)

answers-run : (result : ℕ) → (result ≤ 1) ⊎ ((result ≡ 6) ⊎ (result ≡ 7)) → (result ≤ 1) ⊎ IsHindered result
answers-run result (inl low) = inl low
answers-run result (inr rest) = inr (hindered result rest)

-- what was told of a run's files and what hindered its loads
module _ (held : List ℕ → Option (List ℕ)) (before now : List ℕ → ℕ) (c : RunWords) (result : ℕ) where
  -- a run of the inputs that were loaded
  pub answers-inputs : (inputs : Inputs) → GivesAll (IsLoaded held) c inputs → (result ≤ 1) ⊎ ((result ≡ 6) ⊎ (result ≡ 7)) → (answer : Result Inputs Refusal) → Gives (IsTold held) c answer → Answers answer result
  answers-inputs inputs g run (Ok other) t = answers-run result run
  answers-inputs inputs g run (Err (Program fault)) t = ok-err (sym (program-same held c.name (Err fault) (Ok inputs.exe) t g.program))
  answers-inputs inputs g run (Err (Schedule fault)) t = ok-err (sym (schedule-same held c.schedule (Err fault) (Ok inputs.schedule) t.fails g.schedule))
  answers-inputs inputs g run (Err (Config fault)) t = ok-err (sym (sizes-same held c.config (Err fault) (Ok inputs.sizes) t.fails g.sizes))
  answers-inputs inputs g run (Err (Text fault)) t = absurd t
  answers-inputs inputs g run (Err (Unread name)) t = absurd t
  answers-inputs inputs g run (Err Memory) t = absurd t

  -- a refusal with its cause
  pub answers-refusal : (refusal : Refusal) → IsCause held before now c refusal → (result ≡ status_of refusal) ⊎ (result ≡ 6) → (answer : Result Inputs Refusal) → Gives (IsTold held) c answer → Answers answer result
  answers-refusal refusal cause (inr six) (Ok inputs) t = inr (inr (inl six))
  answers-refusal refusal cause (inr six) (Err other) t = inr (inr (inl six))
  answers-refusal (Unread name) cause (inl five) (Ok inputs) t = inr (inl five)
  answers-refusal (Unread name) cause (inl five) (Err other) t = inr (inl five)
  answers-refusal Memory cause (inl seven) (Ok inputs) t = inr (inr (inr seven))
  answers-refusal Memory cause (inl seven) (Err other) t = inr (inr (inr seven))
  answers-refusal (Program fault) cause (inl e) (Ok inputs) t = ok-err (program-same held c.name (Ok inputs.exe) (Err fault) t.program cause)
  answers-refusal (Program fault) cause (inl e) (Err (Program other)) t = inl e
  answers-refusal (Program fault) cause (inl e) (Err (Schedule other)) t = ok-err (program-same held c.name (Ok t.exe) (Err fault) t.program cause)
  answers-refusal (Program fault) cause (inl e) (Err (Config other)) t = ok-err (program-same held c.name (Ok t.exe) (Err fault) t.program cause)
  answers-refusal (Program fault) cause (inl e) (Err (Text other)) t = absurd t
  answers-refusal (Program fault) cause (inl e) (Err (Unread name)) t = absurd t
  answers-refusal (Program fault) cause (inl e) (Err Memory) t = absurd t
  answers-refusal (Schedule fault) cause (inl e) (Ok inputs) t = ok-err (schedule-same held c.schedule (Ok inputs.schedule) (Err fault) t.schedule cause.fails)
  answers-refusal (Schedule fault) cause (inl e) (Err (Program other)) t = ok-err (sym (program-same held c.name (Err other) (Ok cause.exe) t cause.program))
  answers-refusal (Schedule fault) cause (inl e) (Err (Schedule other)) t = inl e
  answers-refusal (Schedule fault) cause (inl e) (Err (Config other)) t = ok-err (schedule-same held c.schedule (Ok t.entries) (Err fault) t.schedule cause.fails)
  answers-refusal (Schedule fault) cause (inl e) (Err (Text other)) t = absurd t
  answers-refusal (Schedule fault) cause (inl e) (Err (Unread name)) t = absurd t
  answers-refusal (Schedule fault) cause (inl e) (Err Memory) t = absurd t
  answers-refusal (Config fault) cause (inl e) (Ok inputs) t = ok-err (sizes-same held c.config (Ok inputs.sizes) (Err fault) t.sizes cause.fails)
  answers-refusal (Config fault) cause (inl e) (Err (Program other)) t = ok-err (sym (program-same held c.name (Err other) (Ok cause.exe) t cause.program))
  answers-refusal (Config fault) cause (inl e) (Err (Schedule other)) t = ok-err (sym (schedule-same held c.schedule (Err other) (Ok cause.entries) t.fails cause.schedule))
  answers-refusal (Config fault) cause (inl e) (Err (Config other)) t = inl e
  answers-refusal (Config fault) cause (inl e) (Err (Text other)) t = absurd t
  answers-refusal (Config fault) cause (inl e) (Err (Unread name)) t = absurd t
  answers-refusal (Config fault) cause (inl e) (Err Memory) t = absurd t
  answers-refusal (Text fault) cause (inl e) answer t = absurd cause

-- what was told of a program's file
module _ (held : List ℕ → Option (List ℕ)) (before now : List ℕ → ℕ) (name : List ℕ) (result : ℕ) where
  -- a program that was loaded
  pub answers-program : (exe : Exe) → GivesProgram (IsLoaded held) name (Ok exe) → (result ≡ 0) ⊎ ((result ≡ 6) ⊎ (result ≡ 7)) → (answer : Result Exe ExeError) → GivesProgram (IsTold held) name answer → AnswersProgram answer result
  answers-program exe g (inl e) (Ok other) t = inl e
  answers-program exe g (inr e) (Ok other) t = inr (hindered result e)
  answers-program exe g e (Err fault) t = ok-err (sym (program-same held name (Err fault) (Ok exe) t g))

  -- a refusal with its cause
  pub answers-no_program : (refusal : Refusal) → OfProgram held before now name refusal → (result ≡ status_of refusal) ⊎ (result ≡ 6) → (answer : Result Exe ExeError) → GivesProgram (IsTold held) name answer → AnswersProgram answer result
  answers-no_program refusal cause (inr six) (Ok exe) t = inr (inr (inl six))
  answers-no_program refusal cause (inr six) (Err fault) t = inr (inr (inl six))
  answers-no_program (Program fault) cause (inl e) (Ok exe) t = ok-err (program-same held name (Ok exe) (Err fault) t cause)
  answers-no_program (Program fault) cause (inl e) (Err other) t = inl e
  answers-no_program (Unread other) cause (inl e) (Ok exe) t = inr (inl e)
  answers-no_program (Unread other) cause (inl e) (Err fault) t = inr (inl e)
  answers-no_program Memory cause (inl e) (Ok exe) t = inr (inr (inr e))
  answers-no_program Memory cause (inl e) (Err fault) t = inr (inr (inr e))
  answers-no_program _ cause (inl e) answer t = absurd cause

-- what was told of an assembly text's file
module _ (held : List ℕ → Option (List ℕ)) (before now : List ℕ → ℕ) (name : List ℕ) (result : ℕ) where
  placed-same : (a b : Result Placed AsmError) → GivesPlaced (IsTold held) name a → GivesPlaced (IsLoaded held) name b → a ≡ b
  placed-same a b t l =
      let one = (each_text l.text window_from window_to).2 in
      one a (rw (← told-loaded held 4194305 name t.text l.text t.known l.known) t.is) ∙ sym (one b l.is)

  -- a text that was assembled
  pub answers-text : (placed : Placed) → GivesPlaced (IsLoaded held) name (Ok placed) → (result ≡ 0) ⊎ ((result ≡ 6) ⊎ (result ≡ 7)) → (answer : Result Placed AsmError) → GivesPlaced (IsTold held) name answer → AnswersText answer result
  answers-text placed g (inl e) (Ok other) t = inl e
  answers-text placed g (inr e) (Ok other) t = inr (hindered result e)
  answers-text placed g e (Err fault) t = ok-err (sym (placed-same (Err fault) (Ok placed) t g))

  -- a refusal with its cause
  pub answers-no_text : (refusal : Refusal) → OfText held before now name refusal → (result ≡ status_of refusal) ⊎ (result ≡ 6) → (answer : Result Placed AsmError) → GivesPlaced (IsTold held) name answer → AnswersText answer result
  answers-no_text refusal cause (inr six) (Ok placed) t = inr (inr (inl six))
  answers-no_text refusal cause (inr six) (Err fault) t = inr (inr (inl six))
  answers-no_text (Text fault) cause (inl e) (Ok placed) t = ok-err (placed-same (Ok placed) (Err fault) t cause)
  answers-no_text (Text fault) cause (inl e) (Err other) t = inl e
  answers-no_text (Unread other) cause (inl e) (Ok placed) t = inr (inl e)
  answers-no_text (Unread other) cause (inl e) (Err fault) t = inr (inl e)
  answers-no_text Memory cause (inl e) (Ok placed) t = inr (inr (inr e))
  answers-no_text Memory cause (inl e) (Err fault) t = inr (inr (inr e))
  answers-no_text _ cause (inl e) answer t = absurd cause
