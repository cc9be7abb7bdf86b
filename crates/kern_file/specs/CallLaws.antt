-- What holds of the calls on files and the console, by their stays.
use Rattle.std.specs.Prelude.{◌≡◌, ◌≢◌, ℕ, zero, suc, ◌+◌, ◌%◌, ◌^◌, ◌<◌, ◌≤◌, true, List, [], ◌∷◌, length, Some, None}
use Rattle.psx_base.specs.Addresses.{place, user}
use Rattle.psx_base.specs.Memory.{Memory, byte}
use Rattle.psx_base.specs.KernelState.{KernelState}
use Rattle.abs_kernel.specs.declared.calls.CallId.TheVariants.{A00, A02, A03, A04, A08, A09, A3E, B54}
use Rattle.abs_kernel.specs.Answered.{registers_of, answered}
use Rattle.abs_kernel.specs.UserBytes.{following, count_of}
use Rattle.abs_kernel.specs.AccessLaws.{on_from, AllUser}
use Rattle.abs_kernel.specs.Files.{file, is_writable, with_file, with_errno, refuses, bad_file}
use Rattle.abs_kernel.specs.Open.{console_name}
use Rattle.abs_kernel.specs.Calls.{call}
use Rattle.abs_kernel.specs.Played.{Written, Played, after, played}

-- ---- what is sent

-- the n bytes of memory from an address on
abbrev pub bytes_from : Memory → (at n : ℕ) → List ℕ
bytes_from m at zero = []
bytes_from m at (suc n) = byte m (place at) % 2 ^ 8 ∷ bytes_from m (following at) n

-- bytes are written to the console one by one, before the rest
abbrev pub sends : List ℕ → Played → Played
sends [] rest = rest
sends (b ∷ bs) rest = after (Written b) (sends bs rest)

-- write to a file that is open for writing sends the n bytes, and answers n
abbrev pub WriteSends : Type 0
WriteSends = (s : KernelState) (answers : List ℕ) → let r = registers_of s in let n = count_of r.r6 in r.r5 < 2 ^ 32 → is_writable (file s r.r4) ≡ true → AllUser r.r5 n
    → played (call A03 s) answers ≡ sends (bytes_from s.memory r.r5 n) (played (answered s n) answers)

-- a text of n bytes and a zero, all in user memory
pub record IsText (m : Memory) (at n : ℕ) : Type 0 where
  pub there : AllUser at (n + 1)
  pub before : (i : ℕ) → i < n → byte m (place (on_from at i)) ≢ 0
  pub ends : byte m (place (on_from at n)) ≡ 0

-- puts sends the bytes of a text before its zero, and answers 0
abbrev pub PutsSends : Type 0
PutsSends = (s : KernelState) (answers : List ℕ) (n : ℕ) → let r = registers_of s in r.r4 < 2 ^ 32 → IsText s.memory r.r4 n
    → played (call A3E s) answers ≡ sends (bytes_from s.memory r.r4 n) (played (answered s 0) answers)

-- ---- what is opened

-- bytes of user memory that are a name's
abbrev pub IsNamed : Memory → (at : ℕ) → List ℕ → Type 0
IsNamed m at [] = Unit {0}
IsNamed m at (c ∷ name) = (user at ≡ true) × (byte m (place at) ≡ c) × IsNamed m (following at) name

-- open with a mode from 1 to 3 and the console's name opens the lowest file that isn't open, and answers its number
abbrev pub LowestOpened : Type 0
LowestOpened = (s : KernelState) (answers : List ℕ) (n : ℕ) → let r = registers_of s in 1 ≤ r.r5 → r.r5 ≤ 3 → IsNamed s.memory r.r4 console_name
    → n < length s.files → file s n ≡ None → ((j : ℕ) → j < n → file s j ≢ None)
    → played (call A00 s) answers ≡ played (answered (with_file s n (Some r.r5)) n) answers

-- ---- what refuses

-- the number of a file that is closed refuses, in each call that takes one: close, read, write, getc, and putc, which takes it second
abbrev pub ClosedRefuses : Type 0
ClosedRefuses = (s : KernelState) → let r = registers_of s in
    (file s r.r4 ≡ None → (call A04 s ≡ refuses s bad_file) × (call A02 s ≡ refuses s bad_file) × (call A03 s ≡ refuses s bad_file) × (call A08 s ≡ refuses s bad_file))
    × (file s r.r5 ≡ None → call A09 s ≡ refuses s bad_file)

-- no file has a number from 16 on, as there are 16; one that was closed has none
abbrev pub NoneThere : Type 0
NoneThere = (s : KernelState) (f : ℕ) → (length s.files ≤ f → file s f ≡ None) × (file (with_file s f None) f ≡ None)

-- the error of a refusal is the one that GetLastError answers
abbrev pub ErrorAnswered : Type 0
ErrorAnswered = (s : KernelState) (error : ℕ) → call B54 (with_errno s error) ≡ answered (with_errno s error) error
