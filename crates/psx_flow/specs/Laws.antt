-- What is proved of listings: the load delay doesn't show, and their words run as they read.
use Rattle.std.specs.Prelude.{◌≡◌, ℕ, ◌+◌, ◌*◌, ◌%◌, ◌^◌, ◌<◌, ◌≤◌, ◌⊎◌, Bool, false, not, IsTrue, List, Option, Some, None}
use Rattle.psx_ins.specs.declared.ins.Ins.{Ins}
use Rattle.psx_base.specs.Context.{Context, settle}
use Rattle.psx_cpu.specs.Processor.{State, Bus}
use Rattle.psx_cpu.specs.Effect.{effect}
use Rattle.psx_cpu.specs.Traps.{trap_of}
use Rattle.psx_flow.specs.Tree.{Tree, Stop, Do, size}
use Rattle.psx_flow.specs.Well.{enters_or_leaves}
use Rattle.psx_flow.specs.Spaced.{touches}
use Rattle.psx_flow.specs.Run.{Run, Access, accessed, state_at, spares}
use Rattle.psx_flow.specs.Meets.{Meets, calls}
use Rattle.psx_flow.specs.Runs.{Falls, Jumps, JumpsTo, Called, any, Runs, called}
use Rattle.psx_flow.specs.Plain.{steps, executing}
use Rattle.psx_flow.specs.Reaches.{IsPlaced, ArePlaced, Reaches}

-- ---- the load delay

abbrev pub LeavesAlone : Ins → Option (ℕ × ℕ) → Type 0
LeavesAlone i None = Unit {0}
LeavesAlone i (Some load) = IsTrue (not (touches i load.0))

abbrev pub settled_state : State → State
settled_state x = record x { context = settle x.context }

-- Where an instruction neither reads nor writes the register of the pending load, it does what it does where that load is settled:
-- its trap, its access and, behind it and settled, its effect are the same, and the effect itself is, but that of SYSCALL, BREAK and RFE, which have none.
pub record DoesSettled (i : Ins) (x : State) (bus : Bus) : Type 0 where
  pub trap : trap_of i x.context ≡ trap_of i (settle x.context)
  pub access : (q : List Access) → accessed i x bus q ≡ accessed i (settled_state x) bus q
  pub settled : settled_state (effect i x bus) ≡ settled_state (effect i (settled_state x) bus)
  pub same : enters_or_leaves i ≡ false → effect i x bus ≡ effect i (settled_state x) bus

abbrev pub LoadsSettle : Type 0
LoadsSettle = (i : Ins) (x : State) (bus : Bus) → LeavesAlone i x.context.pending → DoesSettled i x bus

-- ---- runs

-- a run that comes to an address: behind the last word, or by a Jump or JumpTo
abbrev pub RunsTo : (Ins → Context → Bool) → Called → Tree → ℕ → Run → Run → ℕ → Type 0
RunsTo may R T at s e to = ((to ≡ at + 4 * size T) × Runs may R T at s (Falls e)) ⊎ (Runs may R T at s (Jumps to e) ⊎ Runs may R T at s (JumpsTo to e))

-- a listing with those that it calls, in a state: they stand at their addresses, and interrupts are off
pub record IsGiven (kept : ℕ → Bool) (ls : List (ℕ × Tree)) (T : Tree) (at : ℕ) (s : Run) : Type 0 where
  pub placed : IsPlaced kept s.bytes at T
  pub calls : ArePlaced kept s.bytes ls
  pub masked : s.cop0.sr % 2 ≡ 0

-- whatever the bus brings, the listing's run from s ends, traps nowhere, stores over no word that is kept, turns no interrupts on, and its calls come back
abbrev pub RunsEnd : (ℕ → Bool) → List (ℕ × Tree) → Tree → ℕ → Run → Type 0
RunsEnd kept ls T at s = Meets kept (calls kept ls) T at (λ _. Unit {0}) (λ _ _. Unit {0}) s

-- Then its words come to where a run comes to, in exactly the steps of that run, whatever the bus brings.
abbrev pub WordsRun : Type 0
WordsRun =
    (kept : ℕ → Bool) (ls : List (ℕ × Tree)) (T : Tree) (at : ℕ) (s : Run) → IsGiven kept ls T at s → RunsEnd kept ls T at s
    → (bus : ℕ → Bus) → ((n : ℕ) → (bus n).value < 2 ^ 32) → (c : ℕ) → Reaches kept bus s.bytes (executing s at c) c s (λ e to. RunsTo any (called any ls) T at s e to)

-- the words come from s at `at` to e at `to`, for some answers of the bus, in exactly the steps that the run makes, which are at most four for each node
pub record IsMade (s : Run) (at : ℕ) (e : Run) (to c : ℕ) : Type 0 where
  pub answers : ℕ → Bus
  pub few : (n : ℕ) → (answers n).value < 2 ^ 32
  pub count : ℕ
  pub run : steps answers count (executing s at c) ≡ Some (executing e to (c + count))
  pub exact : count + s.steps ≡ e.steps
  pub bound : count + 4 * s.passed ≤ 4 * e.passed

-- And each run that stores over no word that is kept is one of the words.
abbrev pub RunsAreMade : Type 0
RunsAreMade =
    (kept : ℕ → Bool) (ls : List (ℕ × Tree)) (T : Tree) (at : ℕ) (s : Run) → IsGiven kept ls T at s
    → (e : Run) (to : ℕ) → RunsTo (spares kept) (called (spares kept) ls) T at s e to → (c : ℕ) → IsMade s at e to c

-- an instruction that doesn't trap has a run
abbrev pub OpsRun : Type 0
OpsRun = (i : Ins) (at : ℕ) (s : Run) (ls : List (ℕ × Tree)) → trap_of i (state_at s at).context ≡ None → (e : Run) × Runs any (called any ls) (Do i Stop) at s (Falls e)
