-- What the listings do that read and write user memory, or tell that an address isn't user memory. User memory is that of the memory map (PSX-SPX, Memory Map): main memory behind the kernel's 64 KB, and the scratchpad.
use Rattle.std.specs.Prelude.{◌≡◌, ℕ, ◌+◌, ◌%◌, ◌^◌, ◌<◌, ◌≤◌, Bool, true, false, ◌&&◌, nat_eq, List, [], ◌∷◌}
use Rattle.psx_base.specs.Memory.{Memory, byte, word, put_byte, put_word}
use Rattle.psx_base.specs.Registers.{Registers}
use Rattle.psx_base.specs.Addresses.{place, user}
use Rattle.psx_flow.specs.declared.kinds.Tested.{Tested}
use Rattle.psx_flow.specs.declared.kinds.Tested.TheVariants.{ReadByte, WriteByte, ReadWord, WriteWord}
use Rattle.psx_flow.specs.declared.listings.TheConstants.{READ_BYTE, WRITE_BYTE, READ_WORD, WRITE_WORD}
use Rattle.psx_flow.specs.declared.node.Node.{Node}
use Rattle.psx_flow.specs.Tree.{Tree}
use Rattle.psx_flow.specs.Run.{Run, Access, Load, Store}
use Rattle.psx_flow.specs.Kernel.{kernel_words}
use Rattle.psx_flow.specs.Meets.{Meets, calls}

-- the listing of each access
abbrev pub listing : Tested → List Node
listing ReadByte = READ_BYTE
listing WriteByte = WRITE_BYTE
listing ReadWord = READ_WORD
listing WriteWord = WRITE_WORD

-- whether an access is made at an address
abbrev pub is_good : Tested → ℕ → Bool
is_good ReadByte a = user a
is_good WriteByte a = user a
is_good ReadWord a = user a && nat_eq (a % 4) 0
is_good WriteWord a = user a && nat_eq (a % 4) 0

-- the access, and the memory behind it, of registers with an address in r8 and a value in r9
abbrev pub access_of : Tested → Registers → Memory → Access
access_of ReadByte c m = Load 1 (place c.r8) (byte m (place c.r8))
access_of WriteByte c m = Store 1 (place c.r8) (c.r9 % 2 ^ 8)
access_of ReadWord c m = Load 4 (place c.r8) (word m (place c.r8))
access_of WriteWord c m = Store 4 (place c.r8) c.r9

abbrev pub memory_after : Tested → Registers → Memory → Memory
memory_after ReadByte c m = m
memory_after WriteByte c m = put_byte m (place c.r8) (c.r9 % 2 ^ 8)
memory_after ReadWord c m = m
memory_after WriteWord c m = put_word m (place c.r8) c.r9

-- r9 behind it
abbrev pub value_after : Tested → Registers → Memory → ℕ
value_after ReadByte c m = byte m (place c.r8)
value_after WriteByte c m = c.r9
value_after ReadWord c m = word m (place c.r8)
value_after WriteWord c m = c.r9

-- behind the listing where the access is made, and where it isn't: r11 and r12 may be anything
pub record AccessMade (kind : Tested) (s e : Run) : Type 0 where
  pub regs : e.regs ≡ record s.regs { r9 = value_after kind s.regs s.bytes; r10 = 1; r11 = e.regs.r11; r12 = e.regs.r12 }
  pub bytes : e.bytes ≡ memory_after kind s.regs s.bytes
  pub seen : e.seen ≡ access_of kind s.regs s.bytes ∷ s.seen

pub record AccessRefused (s e : Run) : Type 0 where
  pub regs : e.regs ≡ record s.regs { r10 = 0; r11 = e.regs.r11; r12 = e.regs.r12 }
  pub bytes : e.bytes ≡ s.bytes
  pub seen : e.seen ≡ s.seen

-- it comes back to the address in r31, within 28 nodes and 29 steps
pub record Tries (kind : Tested) (s : Run) (to : ℕ) (e : Run) : Type 0 where
  pub back : to ≡ s.regs.r31
  pub made : is_good kind s.regs.r8 ≡ true → AccessMade kind s e
  pub refused : is_good kind s.regs.r8 ≡ false → AccessRefused s e
  pub cop0 : e.cop0 ≡ s.cop0
  pub within : e.passed ≤ s.passed + 28
  pub steps : e.steps ≤ s.steps + 29

-- from each state, of which r8 is a word, and at any address the listing does this, and no more
abbrev pub ServesTested : Tested → Tree → Type 0
ServesTested kind T = (at : ℕ) (s : Run) → s.regs.r8 < 2 ^ 32 → Meets kernel_words (calls kernel_words []) T at (λ _. ⊥) (λ to e. Tries kind s to e) s
