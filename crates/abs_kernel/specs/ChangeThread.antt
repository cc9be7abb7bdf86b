-- ChangeThread (PSX-SPX, Kernel (BIOS), Thread Functions: ChangeThread). In a callback, where a frame is there, the thread is taken up when the last frame has gone.
use Rattle.std.specs.Prelude.{ℕ, nat_eq, List, [], ◌∷◌, Some, None, if◌then◌else◌}
use Rattle.psx_base.specs.KernelState.{Frame, KernelState}
use Rattle.kern_layout.specs.Reads.{thread}
use Rattle.abs_kernel.specs.Stay.{Stay, Return}
use Rattle.abs_kernel.specs.Answered.{registers_of, answered}
use Rattle.abs_kernel.specs.Threads.{number_of, is_used, bad_thread}
use Rattle.abs_kernel.specs.Switching.{switched}

-- thread n is taken up later, or none where it is the running one
abbrev pub with_next : KernelState → (n : ℕ) → KernelState
with_next s n = record s { next = if nat_eq n s.current then None else Some n }

-- at once where no frame is there
abbrev pub changes_to : KernelState → (n : ℕ) → List Frame → Stay
changes_to s n [] = Return (switched s n)
changes_to s n (f ∷ fs) = answered (with_next s n) 1

-- ChangeThread(h) takes up a thread; a free slot is as bad a handle as one out of range
abbrev pub change_thread : KernelState → Stay
change_thread s = let n = number_of (registers_of s).r4 in if is_used (thread s n) then changes_to s n s.frames else bad_thread s
