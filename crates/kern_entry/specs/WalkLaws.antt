-- That the words of a listing run as it reads, step by step.
use Rattle.std.specs.Prelude.{◌≡◌, ℕ, ◌-◌, ◌≤◌, Bool, List}
use Rattle.psx_flow.specs.Tree.{Tree}
use Rattle.psx_flow.specs.Run.{Run, state_at}
use Rattle.psx_flow.specs.Runs.{any, called}
use Rattle.psx_flow.specs.Plain.{kernel_core}
use Rattle.psx_flow.specs.Laws.{IsGiven, RunsEnd, RunsTo}
use Rattle.kern_entry.specs.Within.{Aim, Within}

-- an end of a run of a listing from s
abbrev pub EndsRun : List (ℕ × Tree) → Tree → ℕ → Run → Aim
EndsRun ls T at s k q = (e : Run) × (to : ℕ) × RunsTo any (called any ls) T at s e to × (k ≡ kernel_core (state_at e to)) × (q ≡ e.seen)

-- Where a listing's runs end whatever the bus brings, and make no more than so many steps, its words come to the end of a run within these, with another word from the bus at each step.
abbrev pub WordsWalk : Type 0
WordsWalk =
    (kept : ℕ → Bool) (ls : List (ℕ × Tree)) (T : Tree) (at : ℕ) (s : Run) → IsGiven kept ls T at s → RunsEnd kept ls T at s
    → (most : ℕ) → ((e : Run) (to : ℕ) → RunsTo any (called any ls) T at s e to → e.steps ≤ most) → Within (EndsRun ls T at s) (most - s.steps) (kernel_core (state_at s at)) s.seen
