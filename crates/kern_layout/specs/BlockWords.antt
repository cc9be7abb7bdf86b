-- The block as a function from addresses to words.
use Rattle.std.specs.Prelude.{◌≡◌, ℕ, ◌*◌, ◌/◌, ◌<◌, List, length, slice_index}

-- the word at an address of a block
abbrev pub block_word : List ℕ → ℕ → ℕ
block_word words a = slice_index words (a / 4)

-- a block of 64 KB has these words at its addresses
pub record IsBlock (words : List ℕ) (w : ℕ → ℕ) : Type 0 where
  pub size : length words ≡ 0x4000
  pub at : (k : ℕ) → k < 0x4000 → slice_index words k ≡ w (4 * k)
