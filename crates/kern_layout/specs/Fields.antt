-- How words are numbers and lists. `w` gives the word at a physical address.
use Rattle.std.specs.Prelude.{◌≡◌, ℕ, ◌+◌, ◌*◌, ◌<◌, List, [], ◌∷◌, length, slice_index_or}

-- fields of a block: the offset of each, and its value
abbrev pub Fields : Type 0
Fields = List (ℕ × ℕ)

-- the block at an address has these fields
abbrev pub Block : (ℕ → ℕ) → ℕ → Fields → Type 0
Block w at [] = Unit {0}
Block w at (f ∷ fs) = (w (at + f.0) ≡ f.1) × Block w at fs

-- a table of blocks of one size: block i has the fields of element i
abbrev pub Rows : {X : Type 0} → (ℕ → ℕ) → ℕ → ℕ → (ℕ → X → Fields) → List X → X → Type 0
Rows {X} w first size fields xs none = (i : ℕ) → i < length xs → Block w (first + size * i) (fields i (slice_index_or xs i none))

-- a list of numbers, the first one last: to drop the first is to count one less
abbrev pub Stack : (ℕ → ℕ) → ℕ → List ℕ → Type 0
Stack w at [] = Unit {0}
Stack w at (x ∷ xs) = (w (at + 4 * length xs) ≡ x) × Stack w at xs
