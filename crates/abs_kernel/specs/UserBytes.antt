-- What a call reads, writes and tests of the user's memory, byte by byte (PSX-SPX, Kernel (BIOS)).
--
-- The rule of accesses: bytes are read and written in rising order, the first operand before the second, a source before its destination, and nothing past the byte that decides.
-- The first address in this order that isn't user memory stops the call as BadPointer with the caller's r31, and what was written before it stands.
-- A definition keeps the rule by using these words, and those of UserWords for words, in the order of its accesses. How a call answers or waits is in Answered.
use Rattle.std.specs.Prelude.{ℕ, zero, suc, ◌+◌, ◌%◌, ◌^◌, nat_lt, if◌then◌else◌}
use Rattle.psx_base.specs.declared.stop.Stop.TheVariants.{BadPointer}
use Rattle.psx_base.specs.Addresses.{place, user}
use Rattle.psx_base.specs.Memory.{byte, put_byte}
use Rattle.psx_base.specs.KernelState.{KernelState}
use Rattle.abs_kernel.specs.Stay.{Stay, Halt, Touch}
use Rattle.abs_kernel.specs.Answered.{registers_of}

-- the stop at an address that isn't user memory, with the caller's r31
abbrev pub bad_pointer : KernelState → (at : ℕ) → Stay
bad_pointer s at = Halt (BadPointer at (registers_of s).r31) s.memory

-- a byte is read, and the stay goes on by it
abbrev pub reads_byte : KernelState → (at : ℕ) → (ℕ → Stay) → Stay
reads_byte s at next = Touch 1 (if user at then next (byte s.memory (place at)) else bad_pointer s at)

-- the state with another byte in memory
abbrev pub with_byte : KernelState → (at value : ℕ) → KernelState
with_byte s at value = record s { memory = put_byte s.memory (place at) value }

-- a byte is written, and the stay goes on from the new state
abbrev pub writes_byte : KernelState → (at value : ℕ) → (KernelState → Stay) → Stay
writes_byte s at value next = Touch 1 (if user at then next (with_byte s at value) else bad_pointer s at)

-- the next address
abbrev pub following : ℕ → ℕ
following at = (at + 1) % 2 ^ 32

-- n bytes are tested before any is read or written, up to and with the first that isn't user memory
abbrev pub tests_bytes : (n : ℕ) → KernelState → (at : ℕ) → Stay → Stay
tests_bytes zero s at next = next
tests_bytes (suc n) s at next = Touch 1 (if user at then tests_bytes n s (following at) next else bad_pointer s at)

-- how many bytes a count with sign means
abbrev pub count_of : ℕ → ℕ
count_of n = if nat_lt n (2 ^ 31) then n else 0

-- no text in user memory is as long as main memory, 2 MB
unfoldable pub longest : ℕ
longest = 2 ^ 21
