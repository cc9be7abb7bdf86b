-- What holds of printf (PSX-SPX, Kernel (BIOS), TTY Console (std_io): printf).
use Rattle.std.specs.Prelude.{◌≡◌, ◌≢◌, ℕ, zero, suc, ◌+◌, ◌-◌, ◌%◌, ◌^◌, ◌<◌, Bool, true, false, ◌&&◌, nat_le, List, [], ◌∷◌, ◌++◌, length, map, if◌then◌else◌}
use Rattle.psx_base.specs.Addresses.{place}
use Rattle.psx_base.specs.Memory.{Memory, byte}
use Rattle.psx_base.specs.KernelState.{KernelState}
use Rattle.abs_kernel.specs.Stay.{Stay, Return, Halt, Ask, Tell, Write, Touch}
use Rattle.abs_kernel.specs.Answered.{registers_of, answered}
use Rattle.abs_kernel.specs.UserBytes.{following}
use Rattle.abs_kernel.specs.Played.{played}
use Rattle.abs_kernel.specs.AccessLaws.{on_from, AllUser}
use Rattle.abs_kernel.specs.Conversion.{significant, at_least, byte_of_digit}
use Rattle.abs_kernel.specs.Printf.{writes, printf}

-- ---- the answer

-- where a stay returns, the answer is how many bytes are written by then, so many of them before it
abbrev pub Counts : (count : ℕ) → Stay → Type 0
Counts count (Return state) = (registers_of state).r2 ≡ count % 2 ^ 32
Counts count (Halt stop memory) = Unit {0}
Counts count (Ask port next) = (value : ℕ) → Counts count (next value)
Counts count (Tell port value next) = Counts count next
Counts count (Write byte next) = Counts (count + 1) next
Counts count (Touch bytes next) = Counts count next

abbrev pub AnswerCounts : Type 0
AnswerCounts = (s : KernelState) → Counts 0 (printf s)

-- ---- a format without a conversion

-- the n bytes of memory from an address on
abbrev pub format_bytes : Memory → (at n : ℕ) → List ℕ
format_bytes m at zero = []
format_bytes m at (suc n) = byte m (place at) % 2 ^ 8 ∷ format_bytes m (following at) n

-- n bytes and a zero in user memory, without a `%`
pub record IsPlain (m : Memory) (at n : ℕ) : Type 0 where
  pub there : AllUser at (n + 1)
  pub before : (i : ℕ) → i < n → byte m (place (on_from at i)) ≢ 0
  pub plain : (i : ℕ) → i < n → byte m (place (on_from at i)) ≢ 0x25
  pub ends : byte m (place (on_from at n)) ≡ 0

-- it is written as it is, and its length is answered
abbrev pub PlainWritten : Type 0
PlainWritten = (s : KernelState) (answers : List ℕ) (n : ℕ) → let r = registers_of s in r.r4 < 2 ^ 32 → IsPlain s.memory r.r4 n
    → played (printf s) answers ≡ played (writes (format_bytes s.memory r.r4 n) (answered s (n % 2 ^ 32))) answers

-- ---- a format that is one conversion of a number

-- the bytes of a text, one behind the other, in user memory
abbrev pub HasBytes : Memory → (at : ℕ) → List ℕ → Type 0
HasBytes m at [] = Unit {0}
HasBytes m at (b ∷ bytes) = (AllUser at 1) × (byte m (place at) ≡ b) × HasBytes m (following at) bytes

-- a number's text without flags, width and precision: its sign and its digits, of which there is at least one
abbrev pub number_shown : (with_sign : Bool) (base letter value : ℕ) → List ℕ
number_shown with_sign base letter value =
    let negative = with_sign && nat_le (2 ^ 31) value in
    (if negative then 0x2D ∷ [] else []) ++ at_least 1 (map (byte_of_digit letter) (significant base (if negative then 2 ^ 32 - value else value)))

abbrev pub WritesNumber : (byte : ℕ) (with_sign : Bool) (base letter : ℕ) → Type 0
WritesNumber b with_sign base letter =
    (s : KernelState) (answers : List ℕ) → let r = registers_of s in let text = number_shown with_sign base letter r.r5 in
    r.r4 < 2 ^ 32 → HasBytes s.memory r.r4 (0x25 ∷ b ∷ 0 ∷ []) → played (printf s) answers ≡ played (writes text (answered s (length text % 2 ^ 32))) answers

-- %d, %i, %u, %o, %x and %X
abbrev pub NumbersWritten : Type 0
NumbersWritten =
    WritesNumber 0x64 true 10 0x61 × WritesNumber 0x69 true 10 0x61 × WritesNumber 0x75 false 10 0x61 × WritesNumber 0x6F false 8 0x61 × WritesNumber 0x78 false 16 0x61 × WritesNumber 0x58 false 16 0x41
