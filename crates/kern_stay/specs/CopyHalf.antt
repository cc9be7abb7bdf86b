-- The listing that copies half a context, 18 of 35 words, from one block of the kernel's data to another. Two runs of it, the second one 17 words on, copy all of it.
use Rattle.std.specs.Prelude.{◌≡◌, ℕ, ◌+◌, ◌%◌, ◌≤◌, ◌⊎◌, []}
use Rattle.psx_base.specs.Registers.{Registers}
use Rattle.psx_flow.specs.Tree.{Tree}
use Rattle.psx_flow.specs.Run.{Run}
use Rattle.psx_flow.specs.Told.{ports}
use Rattle.psx_flow.specs.Kernel.{kernel_words}
use Rattle.psx_flow.specs.Meets.{Meets, calls}
use Rattle.kern_stay.specs.Copy.{WordsCopied}

-- two blocks of 72 bytes of the kernel's data, which lie apart
pub record Halves (from to : ℕ) : Type 0 where
  pub even : (from % 4 ≡ 0) × (to % 4 ≡ 0)
  pub low : (0xB000 ≤ from) × (0xB000 ≤ to)
  pub high : (from + 72 ≤ 0x10000) × (to + 72 ≤ 0x10000)
  pub apart : (from + 72 ≤ to) ⊎ (to + 72 ≤ from)

-- the registers name them by their addresses in the cached segment
pub record NamesHalves (c : Registers) (from to : ℕ) : Type 0 where
  pub r8 : c.r8 ≡ 0x80000000 + from
  pub r9 : c.r9 ≡ 0x80000000 + to

-- the listing comes back, 17 words on
pub record HalfCopied (s : Run) (from to : ℕ) (at : ℕ) (e : Run) : Type 0 where
  pub back : at ≡ s.regs.r31
  pub regs : e.regs ≡ record s.regs { r8 = e.regs.r8; r9 = e.regs.r9; r10 = e.regs.r10; r11 = e.regs.r11 }
  pub names : NamesHalves e.regs (from + 68) (to + 68)
  pub cop0 : e.cop0 ≡ s.cop0
  pub words : WordsCopied s.bytes e.bytes from to 18
  pub ports : ports e.seen ≡ ports s.seen
  pub within : e.steps ≤ s.steps + 40

abbrev pub CopiesHalf : Tree → Type 0
CopiesHalf T = (at : ℕ) (s : Run) (from to : ℕ) → Halves from to → NamesHalves s.regs from to → Meets kernel_words (calls kernel_words []) T at (λ _. ⊥) (λ b e. HalfCopied s from to b e) s
