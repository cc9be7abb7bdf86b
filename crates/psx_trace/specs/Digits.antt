-- How a trace writes a number.
use Rattle.std.specs.Prelude.{ℕ, List, [], ◌∷◌}
use Rattle.std.specs.List.{flat_map}
use Rattle.psx_text.specs.Digits.{hex8}

-- a space and a word
abbrev pub field : ℕ → List ℕ
field w = 32 ∷ hex8 w

-- a space and a letter
abbrev pub mark : ℕ → List ℕ
mark letter = 32 ∷ letter ∷ []

-- words in order, each behind a space
abbrev pub fields : List ℕ → List ℕ
fields words = flat_map field words
