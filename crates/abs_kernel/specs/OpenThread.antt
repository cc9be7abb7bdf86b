-- OpenThread (PSX-SPX, Kernel (BIOS), Thread Functions: OpenThread). The slot of the running thread isn't taken, also where it is free.
use Rattle.std.specs.Prelude.{ℕ, zero, suc, ◌+◌, ◌-◌, ◌%◌, ◌^◌, true, false, ◌||◌, nat_eq, length, slice_set, None, if◌then◌else◌}
use Rattle.psx_base.specs.Registers.{no_registers}
use Rattle.psx_base.specs.KernelState.{ThreadContext, Used, KernelState}
use Rattle.kern_layout.specs.Reads.{thread}
use Rattle.abs_kernel.specs.Stay.{Stay}
use Rattle.abs_kernel.specs.Answered.{registers_of, answered}
use Rattle.abs_kernel.specs.Threads.{handle_of, is_used}

-- a thread that begins at pc, with the stack and gp given, fp as the stack, and interrupts on
abbrev pub new_thread : (pc sp gp : ℕ) → ThreadContext
new_thread pc sp gp =
    record { context = record { regs = record no_registers { r26 = pc; r28 = gp; r29 = sp; r30 = sp }; pending = None; pc = pc; next = (pc + 4) % 2 ^ 32; in_slot = false }; interrupts = true }

-- slot n becomes that of the thread that the arguments say
abbrev pub with_opened : KernelState → (n : ℕ) → KernelState
with_opened s n = let r = registers_of s in record s { threads = slice_set s.threads n (Used (new_thread r.r4 r.r5 r.r6)) }

-- the slots from n on, of which there are k: the first that is free and isn't the running thread's
abbrev pub opens_from : (k : ℕ) → KernelState → (n : ℕ) → Stay
opens_from zero s n = answered s (2 ^ 32 - 1)
opens_from (suc k) s n = if is_used (thread s n) || nat_eq n s.current then opens_from k s (suc n) else answered (with_opened s n) (handle_of n)

-- OpenThread(pc, sp, gp) answers the thread's handle, or -1 where no slot is left
abbrev pub open_thread : KernelState → Stay
open_thread s = opens_from (length s.threads) s 0
