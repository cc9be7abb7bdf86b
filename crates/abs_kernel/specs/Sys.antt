-- The SYSCALLs outside the gates, by r4 (PSX-SPX, Kernel (BIOS), Interrupt/Exception Handling: EnterCriticalSection, ExitCriticalSection and the SYSCALLs that deliver an event).
use Rattle.std.specs.Prelude.{ℕ, zero, suc, ◌+◌, ◌%◌, ◌^◌, Bool, true, false, if◌then◌else◌}
use Rattle.psx_base.specs.declared.stop.Table.TheVariants.{Sys}
use Rattle.psx_base.specs.declared.stop.Stop.TheVariants.{Unserved}
use Rattle.psx_base.specs.Context.{Context, epc_of, taken}
use Rattle.psx_base.specs.KernelState.{KernelState}
use Rattle.abs_kernel.specs.Stay.{Stay, Return, Halt}
use Rattle.abs_kernel.specs.Answered.{with_running, with_answer, goes_on}
use Rattle.abs_kernel.specs.Returning.{delivers}

-- the address behind the SYSCALL
abbrev pub behind_syscall : Context → ℕ
behind_syscall c = (epc_of c + 4) % 2 ^ 32

-- the state with interrupts on or off
abbrev pub with_interrupts : KernelState → Bool → KernelState
with_interrupts s on = record s { running = record s.running { interrupts = on } }

-- interrupts are turned off, and the answer is 1 where they were on, else 0
abbrev pub enter_critical : KernelState → Stay
enter_critical s =
    let c = s.running.context in
    Return (with_interrupts (with_running s (with_answer (taken c (behind_syscall c)) (if s.running.interrupts then 1 else 0))) false)

-- interrupts are turned on
abbrev pub exit_critical : KernelState → Stay
exit_critical s = goes_on (with_interrupts s true) (behind_syscall s.running.context)

-- the class and spec that the numbers from 4 on deliver
abbrev pub SYSCALL_CLASS : ℕ
SYSCALL_CLASS = 0xF0000010

abbrev pub SYSCALL_SPEC : ℕ
SYSCALL_SPEC = 0x4000

-- they are delivered before the program goes on behind its SYSCALL, with its r2 as it was
abbrev pub sys_delivers : KernelState → Stay
sys_delivers s = let c = s.running.context in delivers s (record s.running { context = taken c (behind_syscall c) }) SYSCALL_CLASS SYSCALL_SPEC (epc_of c)

-- SYSCALL 0 does nothing, 3 isn't served, and each number above it delivers
abbrev pub syscall : (number : ℕ) → KernelState → Stay
syscall zero s = goes_on s (behind_syscall s.running.context)
syscall (suc zero) s = enter_critical s
syscall (suc (suc zero)) s = exit_critical s
syscall (suc (suc (suc zero))) s = Halt (Unserved Sys 3 (epc_of s.running.context)) s.memory
syscall (suc (suc (suc (suc n)))) s = sys_delivers s
