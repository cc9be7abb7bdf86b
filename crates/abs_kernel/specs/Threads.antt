-- Threads by their handles (PSX-SPX, Kernel (BIOS), Thread Functions): thread n has the handle FF000000h + n.
use Rattle.std.specs.Prelude.{ℕ, ◌+◌, ◌-◌, ◌%◌, ◌^◌, Bool, true, false}
use Rattle.psx_base.specs.declared.stop.Stop.TheVariants.{BadThread}
use Rattle.psx_base.specs.KernelState.{Thread, Free, Used, KernelState}
use Rattle.abs_kernel.specs.Stay.{Stay, Halt}
use Rattle.abs_kernel.specs.Answered.{registers_of}

-- a thread's handle, and the number that a handle names
abbrev pub handle_of : (number : ℕ) → ℕ
handle_of number = 0xFF000000 + number

abbrev pub number_of : (handle : ℕ) → ℕ
number_of handle = (handle + 2 ^ 32 - 0xFF000000) % 2 ^ 32

abbrev pub is_used : Thread → Bool
is_used Free = false
is_used (Used t) = true

-- a bad handle stops, with the handle as it is given
abbrev pub bad_thread : KernelState → Stay
bad_thread s = let r = registers_of s in Halt (BadThread r.r4 r.r31) s.memory
