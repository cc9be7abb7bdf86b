-- What holds of the words for user memory.
use Rattle.std.specs.Prelude.{◌≡◌, ℕ, ◌+◌, ◌%◌, ◌^◌, ◌<◌, ◌≤◌, List, true, false}
use Rattle.psx_base.specs.declared.stop.Stop.TheVariants.{BadPointer}
use Rattle.psx_base.specs.Addresses.{user}
use Rattle.psx_base.specs.KernelState.{KernelState}
use Rattle.abs_kernel.specs.Stay.{Stay}
use Rattle.abs_kernel.specs.Answered.{registers_of}
use Rattle.abs_kernel.specs.UserBytes.{tests_bytes, longest}
use Rattle.abs_kernel.specs.UserWords.{user_word, reads_word, writes_word}
use Rattle.abs_kernel.specs.Played.{Halted, played}
use Rattle.abs_kernel.specs.Touched.{touched}
use Rattle.abs_kernel.specs.Puts.{write_text}
use Rattle.abs_kernel.specs.Strlen.{count_bytes}

-- the address i bytes on
abbrev pub on_from : (at i : ℕ) → ℕ
on_from at i = (at + i) % 2 ^ 32

-- the n bytes from an address on are user memory
abbrev pub AllUser : (at n : ℕ) → Type 0
AllUser at n = (i : ℕ) → i < n → user (on_from at i) ≡ true

-- a test of n bytes that are user memory touches n and goes on
abbrev pub TestsPass : Type 0
TestsPass = (n : ℕ) (s : KernelState) (at : ℕ) (next : Stay) (answers : List ℕ) → at < 2 ^ 32 → AllUser at n
    → (played (tests_bytes n s at next) answers ≡ played next answers) × (touched (tests_bytes n s at next) answers ≡ n + touched next answers)

-- a test stops at the first that isn't, and touches up to and with it
abbrev pub TestsStop : Type 0
TestsStop = (n k : ℕ) (s : KernelState) (at : ℕ) (next : Stay) (answers : List ℕ) → at < 2 ^ 32 → k < n → AllUser at k → user (on_from at k) ≡ false
    → ((played (tests_bytes n s at next) answers).end ≡ Halted (BadPointer (on_from at k) (registers_of s).r31) s.memory) × (touched (tests_bytes n s at next) answers ≡ k + 1)

-- a word of user memory has its four bytes there
abbrev pub WordsWithin : Type 0
WordsWithin = (at i : ℕ) → user_word at ≡ true → i < 4 → user (at + i) ≡ true

-- what is written as a word is read again from there
abbrev pub WordsStay : Type 0
WordsStay = (s : KernelState) (at value : ℕ) (next : ℕ → Stay) (answers : List ℕ) → user_word at ≡ true
    → played (writes_word s at value (λ t. reads_word t at next)) answers ≡ played (next value) answers

-- among so many bytes from any address on there is one that isn't user memory, so the count in the definitions of texts is no limit
abbrev pub TextsEnd : Type 0
TextsEnd = (n : ℕ) (s : KernelState) (at count : ℕ) → at < 2 ^ 32 → longest ≤ n
    → (write_text n s at ≡ write_text longest s at) × (count_bytes n s at count ≡ count_bytes longest s at count)
