-- The listing that copies words of the kernel's data, a context say, from one block to another.
use Rattle.std.specs.Prelude.{◌≡◌, ℕ, ◌+◌, ◌*◌, ◌%◌, ◌<◌, ◌≤◌, ◌⊎◌, []}
use Rattle.psx_base.specs.Memory.{Memory, byte, word}
use Rattle.psx_base.specs.Registers.{Registers}
use Rattle.psx_flow.specs.Tree.{Tree}
use Rattle.psx_flow.specs.Run.{Run}
use Rattle.psx_flow.specs.Told.{ports}
use Rattle.psx_flow.specs.Kernel.{kernel_words}
use Rattle.psx_flow.specs.Meets.{Meets, calls}

-- so many words are copied, and all else stays
pub record WordsCopied (m n : Memory) (from to count : ℕ) : Type 0 where
  pub copied : (k : ℕ) → k < count → word n (to + 4 * k) ≡ word m (from + 4 * k)
  pub words : (a : ℕ) → a % 4 ≡ 0 → (a < to) ⊎ (to + 4 * count ≤ a) → word n a ≡ word m a
  pub bytes : (a : ℕ) → (a < to) ⊎ (to + 4 * count ≤ a) → byte n a ≡ byte m a

-- the registers name two blocks of the kernel's data that lie apart, by their addresses in the cached segment
pub record NamesBlocks (c : Registers) (from to count : ℕ) : Type 0 where
  pub r8 : c.r8 ≡ 0x80000000 + from
  pub r9 : c.r9 ≡ 0x80000000 + to
  pub r10 : c.r10 ≡ 0x80000000 + (from + 4 * count)
  pub even : (from % 4 ≡ 0) × (to % 4 ≡ 0)
  pub low : (0xB000 ≤ from) × (0xB000 ≤ to)
  pub high : (from + 4 * count ≤ 0x10000) × (to + 4 * count ≤ 0x10000)
  pub apart : (from + 4 * count ≤ to) ⊎ (to + 4 * count ≤ from)

-- the listing comes back, with r9 behind the last word that was written
pub record Copied (s : Run) (from to count : ℕ) (at : ℕ) (e : Run) : Type 0 where
  pub back : at ≡ s.regs.r31
  pub regs : e.regs ≡ record s.regs { r8 = e.regs.r8; r9 = e.regs.r9; r12 = e.regs.r12 }
  pub next : e.regs.r9 ≡ 0x80000000 + (to + 4 * count)
  pub cop0 : e.cop0 ≡ s.cop0
  pub words : WordsCopied s.bytes e.bytes from to count
  pub ports : ports e.seen ≡ ports s.seen
  pub within : e.steps ≤ s.steps + (8 * count + 4)

abbrev pub CopiesWords : Tree → Type 0
CopiesWords T = (at : ℕ) (s : Run) (from to count : ℕ) → NamesBlocks s.regs from to count → Meets kernel_words (calls kernel_words []) T at (λ _. ⊥) (λ b e. Copied s from to count b e) s
