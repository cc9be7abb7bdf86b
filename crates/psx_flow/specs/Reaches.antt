-- Where the words of a listing stand, and what running them comes to.
use Rattle.std.specs.Prelude.{◌≡◌, ℕ, ◌+◌, ◌*◌, ◌%◌, ◌≤◌, Bool, true, ◌&&◌, IsTrue, List, [], ◌∷◌, Some}
use Rattle.psx_base.specs.Memory.{Memory, byte, word, is_mapped}
use Rattle.psx_base.specs.Addresses.{place}
use Rattle.psx_cpu.specs.Processor.{Bus}
use Rattle.psx_flow.specs.Tree.{Tree, flat}
use Rattle.psx_flow.specs.Well.{fits}
use Rattle.psx_flow.specs.Spaced.{is_spaced}
use Rattle.psx_flow.specs.Lowered.{lowered, reaches}
use Rattle.psx_flow.specs.Run.{Run}
use Rattle.psx_flow.specs.Plain.{Execution, steps, executing}

-- `kept` says which physical addresses hold words of listings
module _ (kept : ℕ → Bool) where
  abbrev pub keeps_word : ℕ → Bool
  keeps_word p = (kept p && kept (p + 1)) && (kept (p + 2) && kept (p + 3))

  -- a word stands at an address, in memory, where no store goes
  pub record Lies (m : Memory) (at w : ℕ) : Type 0 where
    pub is : word m (place at) ≡ w
    pub aligned : at % 4 ≡ 0
    pub mapped : is_mapped (place at) 4 ≡ true
    pub spared : keeps_word (place at) ≡ true

  -- words, one behind the other
  abbrev pub Stands : Memory → ℕ → List ℕ → Type 0
  Stands m at [] = Unit {0}
  Stands m at (w ∷ ws) = Lies m at w × Stands m (at + 4) ws

  -- A listing stands at an address, where it meets what is asked of one that is lowered: instructions and registers fit, branches and jumps go where they go, loads have room.
  pub record IsPlaced (m : Memory) (at : ℕ) (T : Tree) : Type 0 where
    pub fitting : IsTrue (fits T)
    pub reaching : IsTrue (reaches T at)
    pub roomy : IsTrue (is_spaced (flat T []))
    pub words : Stands m at (lowered T at)

  -- listings stand at their addresses
  abbrev pub ArePlaced : Memory → List (ℕ × Tree) → Type 0
  ArePlaced m [] = Unit {0}
  ArePlaced m (l ∷ ls) = IsPlaced m l.0 l.1 × ArePlaced m ls

  -- in this state the words are those of the first memory, and interrupts are off
  pub record Keeps (first : Memory) (s : Run) : Type 0 where
    pub bytes : (x : ℕ) → kept x ≡ true → byte s.bytes x ≡ byte first x
    pub masked : s.cop0.sr % 2 ≡ 0

  -- From an execution of count c, in a state s of a run, the steps come to a state `after` at an address `to` for which Z holds, with nothing pending,
  -- in exactly the steps that the run makes from there on, which are at most four for each node that it passes. The words are those of the first memory.
  pub record Reaches (bus : ℕ → Bus) (first : Memory) (start : Execution) (c : ℕ) (s : Run) (Z : Run → ℕ → Type 0) : Type 0 where
    pub count : ℕ
    pub after : Run
    pub to : ℕ
    pub run : steps bus count start ≡ Some (executing after to (c + count))
    pub exact : count + s.steps ≡ after.steps
    pub bound : count + 4 * s.passed ≤ 4 * after.passed
    pub keeps : Keeps first after
    pub holds : Z after to
