-- What a text in user memory is, and what the calls say of it (PSX-SPX, Kernel (BIOS), String functions).
use Rattle.std.specs.Prelude.{◌≡◌, ℕ, zero, suc, ◌+◌, ◌^◌, ◌<◌, ◌≤◌, true}
use Rattle.psx_base.specs.Addresses.{place, user}
use Rattle.psx_base.specs.Memory.{byte}
use Rattle.psx_base.specs.KernelState.{KernelState}
use Rattle.kern_layout.specs.Fits.{InBytes}
use Rattle.abs_kernel.specs.Stay.{Stay, Touch}
use Rattle.abs_kernel.specs.Answered.{registers_of, answered}
use Rattle.abs_kernel.specs.UserBytes.{longest}
use Rattle.abs_kernel.specs.Strlen.{strlen}
use Rattle.abs_kernel.specs.Strcmp.{compare_texts, strcmp}
use Rattle.abs_kernel.specs.Strchr.{find_first}
use Rattle.abs_kernel.specs.Strrchr.{find_last}

-- the byte at an address
abbrev pub byte_at : KernelState → ℕ → ℕ
byte_at s at = byte s.memory (place at)

-- a text of n bytes stands at an address: none of them is 0, the byte behind them is, and all are user memory
pub record IsText (s : KernelState) (at n : ℕ) : Type 0 where
  pub within : (i : ℕ) → i ≤ n → user (at + i) ≡ true
  pub some : (i : ℕ) → i < n → byte_at s (at + i) ≡ 0 → ⊥
  pub ends : byte_at s (at + n) ≡ 0

-- two texts, of m and of n bytes, are equal
abbrev pub SameText : (s : KernelState) (a m b n : ℕ) → Type 0
SameText s a m b n = (m ≡ n) × ((i : ℕ) → i < m → byte_at s (a + i) ≡ byte_at s (b + i))

-- n bytes are read, and then the stay goes on
abbrev pub behind_bytes : (n : ℕ) → Stay → Stay
behind_bytes zero stay = stay
behind_bytes (suc n) stay = Touch 1 (behind_bytes n stay)

-- strlen answers the number of bytes before the first zero, and reads that many and the zero
abbrev pub StrlenCounts : Type 0
StrlenCounts = (s : KernelState) (n : ℕ) → IsText s (registers_of s).r4 n → strlen s ≡ behind_bytes (n + 1) (answered s n)

-- strcmp answers a number, which is 0 exactly where the texts are equal
pub record Tells (s : KernelState) (a m b n : ℕ) (stay : Stay) : Type 0 where
  pub bytes : ℕ
  pub answer : ℕ
  pub is : stay ≡ behind_bytes bytes (answered s answer)
  pub equal : answer ≡ 0 → SameText s a m b n
  pub zero : SameText s a m b n → answer ≡ 0

-- in a memory of bytes
abbrev pub StrcmpTells : Type 0
StrcmpTells = (s : KernelState) (m n : ℕ) → InBytes s.memory
    → (let r = registers_of s in IsText s r.r4 m → IsText s r.r5 n → Tells s r.r4 m r.r5 n (strcmp s))

-- No text is as long as the definitions go on at most: with a larger number the stays are the same, wherever they begin.
abbrev pub LengthIsNoLimit : Type 0
LengthIsNoLimit = (n : ℕ) (s : KernelState) (a b c found : ℕ) → a < 2 ^ 32 → longest ≤ n
    → (find_first n s a c ≡ find_first longest s a c) × (find_last n s a c found ≡ find_last longest s a c found) × (compare_texts n s a b ≡ compare_texts longest s a b)
