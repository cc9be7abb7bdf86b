-- The number without a sign that a text begins with.
use Rattle.std.specs.Prelude.{ℕ, ◌<◌, ◌≤◌, ◌^◌, ◌||◌, ◌==◌, false, ◌≡◌, List, length, take}
use Rattle.psx_lex.specs.Lexeme.{IsMagnitude, is_name_start, is_mark}

-- a text begins with a number without a sign, and with no longer one
pub record IsLongestMagnitude (text : List ℕ) (len value : ℕ) : Type 0 where
  pub within : len ≤ length text
  pub form : IsMagnitude (take len text) value
  pub longest : (more other : ℕ) → more ≤ length text → IsMagnitude (take more text) other → more ≤ len

-- a text begins with no number without a sign, or only with one of more than 64 bits
abbrev pub HasNoMagnitude : List ℕ → Type 0
HasNoMagnitude text = (len value : ℕ) → value < 2 ^ 64 → ¬ IsLongestMagnitude text len value

-- a byte that begins no token but a number
abbrev pub BeginsNoOther : ℕ → Type 0
BeginsNoOther c = (is_name_start c || (c == 46 || (c == 34 || is_mark c))) ≡ false
