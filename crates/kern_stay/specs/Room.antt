-- How many bytes from an address on are user memory, and the listing that counts them (PSX-SPX, Memory Map).
use Rattle.std.specs.Prelude.{◌≡◌, ℕ, ◌+◌, ◌-◌, ◌^◌, ◌<◌, ◌≤◌, true, false, ◌&&◌, nat_le, nat_lt, [], if◌then◌else◌}
use Rattle.psx_base.specs.Addresses.{user}
use Rattle.psx_flow.specs.Tree.{Tree}
use Rattle.psx_flow.specs.Run.{Run}
use Rattle.psx_flow.specs.Kernel.{kernel_words}
use Rattle.psx_flow.specs.Meets.{Meets, calls}

-- up to the end of a range, or elsewhere
abbrev pub left_in : (a from to : ℕ) → ℕ → ℕ
left_in a from to k = if nat_le from a && nat_lt a to then to - a else k

-- main memory of the cached, the lowest and the uncached segment, and the scratchpad of the lowest and the cached one
unfoldable pub room : ℕ → ℕ
room a = left_in a 0x80010000 0x80200000 (left_in a 0x10000 0x200000 (left_in a 0xA0010000 0xA0200000 (left_in a 0x1F800000 0x1F800400 (left_in a 0x9F800000 0x9F800400 0))))

-- so many bytes are user memory, and the next one isn't; none of them lies behind the last address
pub record IsLeft (a n : ℕ) : Type 0 where
  pub good : (i : ℕ) → i < n → user (a + i) ≡ true
  pub bad : user (a + n) ≡ false
  pub within : a + n < 2 ^ 32

abbrev pub RoomIsLeft : Type 0
RoomIsLeft = (a : ℕ) → a < 2 ^ 32 → IsLeft a (room a)

-- the listing comes back with it in r9
pub record Given (s : Run) (to : ℕ) (e : Run) : Type 0 where
  pub back : to ≡ s.regs.r31
  pub regs : e.regs ≡ record s.regs { r9 = room s.regs.r8; r10 = e.regs.r10; r11 = e.regs.r11 }
  pub cop0 : e.cop0 ≡ s.cop0
  pub bytes : e.bytes ≡ s.bytes
  pub seen : e.seen ≡ s.seen
  pub within : e.steps ≤ s.steps + 30

abbrev pub GivesRoom : Tree → Type 0
GivesRoom T = (at : ℕ) (s : Run) → s.regs.r8 < 2 ^ 32 → Meets kernel_words (calls kernel_words []) T at (λ _. ⊥) (λ to e. Given s to e) s
