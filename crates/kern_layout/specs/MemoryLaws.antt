-- A store to memory is the store to its words, and to the bytes of the line.
use Rattle.std.specs.Prelude.{◌≡◌, ◌≢◌, ◌⊎◌, ℕ, ◌+◌, ◌%◌, ◌<◌, ◌≤◌}
use Rattle.psx_base.specs.Memory.{Memory, byte, word, put_byte, put_word}
use Rattle.kern_layout.specs.Stores.{Same, SameBytes, put}
use Rattle.kern_layout.specs.declared.places.TheConstants.{WORK_AREA}
use Rattle.kern_layout.specs.Numbers.{threads_at, line_at, variables_at}

-- the words at multiples of 4 after a word is stored at one
abbrev pub WordStored : Type 0
WordStored = (m : Memory) (at v a : ℕ) → at % 4 ≡ 0 → a % 4 ≡ 0 → word (put_word m at v) a ≡ put (word m) at v a

-- no byte of the line is written by it, where it lies outside
abbrev pub LineKept : Type 0
LineKept = (m : Memory) (at v : ℕ) → (at + 4 ≤ line_at) ⊎ (variables_at ≤ at) → SameBytes line_at variables_at (byte m) (byte (put_word m at v))

-- a byte of the line is stored: the words before and behind the line stay, and its other bytes
pub record LineByteStored (m : Memory) (k v : ℕ) : Type 0 where
  pub before : Same threads_at line_at (word m) (word (put_byte m (line_at + k) v))
  pub behind : Same variables_at WORK_AREA (word m) (word (put_byte m (line_at + k) v))
  pub stored : byte (put_byte m (line_at + k) v) (line_at + k) ≡ v
  pub others : (a : ℕ) → a ≢ line_at + k → byte (put_byte m (line_at + k) v) a ≡ byte m a

abbrev pub ByteStored : Type 0
ByteStored = (m : Memory) (k v : ℕ) → k < 0x100 → LineByteStored m k v
