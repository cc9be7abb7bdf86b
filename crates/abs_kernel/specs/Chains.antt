-- The four chains of interrupt handlers (PSX-SPX, Kernel (BIOS), BIOS Interrupt/Exception Handling: priority chains).
-- An element has three words of user memory: the next element's address, the second function and the first one. The kernel writes the first word and never reads it.
use Rattle.std.specs.Prelude.{ℕ, Bool, false, ◌||◌, nat_eq, List, [], ◌∷◌, if◌then◌else◌}

-- how many chains there are, and how many elements a chain may have
abbrev pub chain_count : ℕ
chain_count = 4

abbrev pub most_elements : ℕ
most_elements = 8

-- a chain's first element, or 0
abbrev pub head_of : List ℕ → ℕ
head_of [] = 0
head_of (e ∷ es) = e

-- whether an element is there, by its address
abbrev pub has : ℕ → List ℕ → Bool
has e [] = false
has e (x ∷ es) = nat_eq x e || has e es

-- the elements without the first one that is e
abbrev pub without : ℕ → List ℕ → List ℕ
without e [] = []
without e (x ∷ es) = if nat_eq x e then es else x ∷ without e es
