-- Contexts and threads in the kernel's blocks (PSX-SPX, Kernel (BIOS), Thread Functions: thread control blocks; R3000A manual, SR).
use Rattle.std.specs.Prelude.{ℕ, Bool, [], ◌∷◌, nat_eq, if◌then◌else◌}
use Rattle.psx_base.specs.KernelState.{ThreadContext, Thread, Free, Used}
use Rattle.kern_layout.specs.Fields.{Fields}
use Rattle.kern_layout.specs.declared.places.TheConstants.{THREAD_STATUS, SAVED_PC, SAVED_HI, SAVED_LO, SAVED_SR, THREAD_FREE, THREAD_USED}
use Rattle.kern_layout.specs.Numbers.{saved_register}

-- SR as an exception leaves it: the user side's 401h or 400h, with its low bits moved up by two
abbrev pub saved_sr_of : Bool → ℕ
saved_sr_of on = if on then 0x404 else 0x400

-- A saved context: register n at 8 + 4 * n, then EPC, HI, LO, SR. k0 and k1 aren't looked at, since in a context at rest they are pc and 0.
abbrev pub saved : ThreadContext → Fields
saved t = (saved_register 1, t.context.regs.r1) ∷ (saved_register 2, t.context.regs.r2) ∷ (saved_register 3, t.context.regs.r3) ∷ (saved_register 4, t.context.regs.r4) ∷ (saved_register 5, t.context.regs.r5) ∷ (saved_register 6, t.context.regs.r6) ∷ (saved_register 7, t.context.regs.r7) ∷ (saved_register 8, t.context.regs.r8) ∷ (saved_register 9, t.context.regs.r9) ∷ (saved_register 10, t.context.regs.r10) ∷ (saved_register 11, t.context.regs.r11) ∷ (saved_register 12, t.context.regs.r12) ∷ (saved_register 13, t.context.regs.r13) ∷ (saved_register 14, t.context.regs.r14) ∷ (saved_register 15, t.context.regs.r15) ∷ (saved_register 16, t.context.regs.r16) ∷ (saved_register 17, t.context.regs.r17) ∷ (saved_register 18, t.context.regs.r18) ∷ (saved_register 19, t.context.regs.r19) ∷ (saved_register 20, t.context.regs.r20) ∷ (saved_register 21, t.context.regs.r21) ∷ (saved_register 22, t.context.regs.r22) ∷ (saved_register 23, t.context.regs.r23) ∷ (saved_register 24, t.context.regs.r24) ∷ (saved_register 25, t.context.regs.r25) ∷ (saved_register 28, t.context.regs.r28) ∷ (saved_register 29, t.context.regs.r29) ∷ (saved_register 30, t.context.regs.r30) ∷ (saved_register 31, t.context.regs.r31) ∷ (SAVED_PC, t.context.pc) ∷ (SAVED_HI, t.context.regs.hi) ∷ (SAVED_LO, t.context.regs.lo) ∷ (SAVED_SR, saved_sr_of t.interrupts) ∷ []

-- a thread's control block: its status, and its context where it is used and isn't the running one
abbrev pub thread_fields : (current n : ℕ) → Thread → Fields
thread_fields current n Free = (THREAD_STATUS, THREAD_FREE) ∷ []
thread_fields current n (Used t) = (THREAD_STATUS, THREAD_USED) ∷ (if nat_eq n current then [] else saved t)
