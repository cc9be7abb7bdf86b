-- What a call reads, writes and tests of the user's memory word by word, by the rule of accesses in UserBytes. A word access also stops where its address isn't a multiple of 4 (PSX-SPX, Kernel (BIOS)).
use Rattle.std.specs.Prelude.{ℕ, ◌%◌, Bool, ◌&&◌, nat_eq, if◌then◌else◌}
use Rattle.psx_base.specs.Addresses.{place, user}
use Rattle.psx_base.specs.Memory.{word, put_word}
use Rattle.psx_base.specs.KernelState.{KernelState}
use Rattle.abs_kernel.specs.Stay.{Stay, Touch}
use Rattle.abs_kernel.specs.UserBytes.{bad_pointer}

-- an address at which a word of user memory stands
abbrev pub user_word : ℕ → Bool
user_word at = nat_eq (at % 4) 0 && user at

-- a word is read, and the stay goes on by it
abbrev pub reads_word : KernelState → (at : ℕ) → (ℕ → Stay) → Stay
reads_word s at next = Touch 4 (if user_word at then next (word s.memory (place at)) else bad_pointer s at)

-- the state with another word in memory
abbrev pub with_word : KernelState → (at value : ℕ) → KernelState
with_word s at value = record s { memory = put_word s.memory (place at) value }

-- a word is written, and the stay goes on from the new state
abbrev pub writes_word : KernelState → (at value : ℕ) → (KernelState → Stay) → Stay
writes_word s at value next = Touch 4 (if user_word at then next (with_word s at value) else bad_pointer s at)

-- a word is tested, and neither read nor written
abbrev pub tests_word : KernelState → (at : ℕ) → Stay → Stay
tests_word s at next = Touch 4 (if user_word at then next else bad_pointer s at)
