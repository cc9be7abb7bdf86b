-- The tables of routines, wherever these stand: who fills them says where.
use Rattle.std.specs.Prelude.{◌≡◌, ℕ, ◌+◌, ◌*◌, ◌<◌, Option, Some, None}
use Rattle.psx_base.specs.declared.stop.Table.{Table}
use Rattle.psx_base.specs.declared.stop.Table.TheVariants.{A, B, C}
use Rattle.psx_base.specs.Memory.{Memory, word}
use Rattle.abs_kernel.specs.declared.calls.CallId.{CallId}
use Rattle.abs_kernel.specs.CallTable.{served_call}
use Rattle.kern_entry.specs.declared.places.TheConstants.{UNSERVED}

-- the word of a number: 0 where it isn't served
abbrev pub table_word : (CallId → ℕ) → Option CallId → ℕ
table_word at None = 0
table_word at (Some id) = at id

-- where a number goes
abbrev pub destination : (CallId → ℕ) → Option CallId → ℕ
destination at None = UNSERVED
destination at (Some id) = at id

-- no routine stands at 0
abbrev pub AllThere : (CallId → ℕ) → Type 0
AllThere at = (id : CallId) → at id ≡ 0 → ⊥

-- a table from an address on, with so many numbers
abbrev pub TableAt : (CallId → ℕ) → Memory → Table → (from count : ℕ) → Type 0
TableAt at m table from count = (n : ℕ) → n < count → word m (from + 4 * n) ≡ table_word at (served_call table n)

-- the three
pub record TablesRead (at : CallId → ℕ) (m : Memory) : Type 0 where
  pub there : AllThere at
  pub a : TableAt at m A 0x200 0xC0
  pub b : TableAt at m B 0x874 0x5F
  pub c : TableAt at m C 0x674 0x20
