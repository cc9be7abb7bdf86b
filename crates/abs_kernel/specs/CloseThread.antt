-- CloseThread (PSX-SPX, Kernel (BIOS), Thread Functions: CloseThread).
use Rattle.std.specs.Prelude.{ℕ, nat_eq, nat_lt, length, slice_set, Option, Some, None, if◌then◌else◌}
use Rattle.psx_base.specs.KernelState.{Free, KernelState}
use Rattle.abs_kernel.specs.Stay.{Stay}
use Rattle.abs_kernel.specs.Answered.{registers_of, answered}
use Rattle.abs_kernel.specs.Threads.{number_of, bad_thread}

-- the thread to take up later, where it isn't thread n
abbrev pub other_than : (n : ℕ) → Option ℕ → Option ℕ
other_than n None = None
other_than n (Some k) = if nat_eq k n then None else Some k

-- slot n becomes free, and isn't taken up later
abbrev pub with_freed : KernelState → (n : ℕ) → KernelState
with_freed s n = record s { threads = slice_set s.threads n Free; next = other_than n s.next }

-- CloseThread(h) frees the slot, the running one too, whose code goes on
abbrev pub close_thread : KernelState → Stay
close_thread s = let n = number_of (registers_of s).r4 in if nat_lt n (length s.threads) then answered (with_freed s n) 1 else bad_thread s
