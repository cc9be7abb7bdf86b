-- By which stores the kernel's memory stands for a state in which another thread runs.
use Rattle.std.specs.Prelude.{◌≡◌, ℕ, ◌+◌, ◌<◌, length}
use Rattle.psx_base.specs.Memory.{Memory, put_word}
use Rattle.psx_base.specs.KernelState.{ThreadContext, Thread, Free, Used, KernelState}
use Rattle.kern_layout.specs.Reads.{thread, thread_at}
use Rattle.kern_layout.specs.Valid.{Valid}
use Rattle.abs_kernel.specs.Answered.{registers_of}
use Rattle.abs_kernel.specs.Switching.{switched}
use Rattle.kern_stay.specs.Copy.{WordsCopied}
use Rattle.kern_stay.specs.Doors.{Holds}

-- the area is settled: the context goes on at an address, with a value in r2
abbrev pub settle_area : Memory → (value at : ℕ) → Memory
settle_area m value at = put_word (put_word m 0xEB10 value) 0xEB88 at

-- the area's context is copied to a slot that is used
abbrev pub SlotKept : Thread → (m n : Memory) → ℕ → Type 0
SlotKept Free m n to = n ≡ m
SlotKept (Used u) m n to = WordsCopied m n 0xEB0C (to + 0xC) 35

-- the area settled and kept in the running slot, then the other slot's context in the area, and its number stored
abbrev pub Switches : Type 0
Switches =
    (s : KernelState) → Valid s → (m : Memory) → Holds s m → (n : ℕ) → n < length s.threads → (other : ThreadContext) → thread s n ≡ Used other
    → (kept : Memory) → SlotKept (thread s s.current) (settle_area m 1 (registers_of s).r31) kept (thread_at s.current) → (filled : Memory) → WordsCopied kept filled (thread_at n + 0xC) 0xEB0C 35
    → Holds (switched s n) (put_word filled 0xEA00 n)
