-- Files by their numbers, and how a call on them refuses (PSX-SPX, Kernel (BIOS), File Functions). The only file is the console.
use Rattle.std.specs.Prelude.{ℕ, ◌-◌, ◌%◌, ◌^◌, Bool, false, nat_eq, nat_le, Option, Some, None, slice_index_or, slice_set}
use Rattle.psx_base.specs.KernelState.{KernelState}
use Rattle.abs_kernel.specs.Stay.{Stay}
use Rattle.abs_kernel.specs.Answered.{answered}

-- a file's mode where it is open: 1 for reading, 2 for writing, 3 for both; a number from 16 on has none
abbrev pub file : KernelState → (number : ℕ) → Option ℕ
file s number = slice_index_or s.files number None

-- a file that is open for reading, and one for writing
abbrev pub is_readable : Option ℕ → Bool
is_readable None = false
is_readable (Some mode) = nat_eq (mode % 2) 1

abbrev pub is_writable : Option ℕ → Bool
is_writable None = false
is_writable (Some mode) = nat_le 2 mode

-- the state with a file opened in a mode, or closed
abbrev pub with_file : KernelState → (number : ℕ) → Option ℕ → KernelState
with_file s number mode = record s { files = slice_set s.files number mode }

-- the state with another last error
abbrev pub with_errno : KernelState → (error : ℕ) → KernelState
with_errno s error = record s { errno = error }

-- a refusal answers -1, and keeps its error
abbrev pub refuses : KernelState → (error : ℕ) → Stay
refuses s error = answered (with_errno s error) (2 ^ 32 - 1)

-- the errors, by their numbers
abbrev pub bad_file : ℕ
bad_file = 9

abbrev pub no_device : ℕ
no_device = 19

abbrev pub bad_mode : ℕ
bad_mode = 22

abbrev pub no_file_left : ℕ
no_file_left = 24
