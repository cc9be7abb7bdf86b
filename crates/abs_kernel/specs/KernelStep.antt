-- One stay in the kernel, from a state of the user side and the code of the exception that entered: the steps of the written kernel machine (PSX-SPX, Kernel (BIOS)).
use Rattle.std.specs.Prelude.{ℕ}
use Rattle.psx_base.specs.declared.stop.Table.TheVariants.{A, B, C}
use Rattle.psx_base.specs.declared.stop.Stop.TheVariants.{Exception}
use Rattle.psx_base.specs.Context.{settle, epc_of}
use Rattle.psx_base.specs.Items.{Entrance, ByA, ByB, ByC, BySyscall, ByInterrupt, ByDone, ByBack, ByTrap}
use Rattle.psx_base.specs.KernelState.{KernelState}
use Rattle.abs_kernel.specs.Cause.{entrance_of}
use Rattle.abs_kernel.specs.Stay.{Stay, Halt}
use Rattle.abs_kernel.specs.Answered.{registers_of, with_running}
use Rattle.abs_kernel.specs.Exits.{ends}
use Rattle.abs_kernel.specs.Returning.{comes_back}
use Rattle.abs_kernel.specs.Interrupt.{interrupts}
use Rattle.abs_kernel.specs.Calls.{by_table}
use Rattle.abs_kernel.specs.Sys.{syscall}

-- the running context with its pending load written
abbrev pub settled_state : KernelState → KernelState
settled_state s = with_running s (settle s.running.context)

-- an exception that isn't served
abbrev pub unhandled : (code : ℕ) → KernelState → Stay
unhandled code s = Halt (Exception code (epc_of s.running.context)) s.memory

-- a stay by its entrance, from a settled state
abbrev pub by_entrance : Entrance → (code : ℕ) → KernelState → Stay
by_entrance ByA code s = by_table A s
by_entrance ByB code s = by_table B s
by_entrance ByC code s = by_table C s
by_entrance BySyscall code s = syscall (registers_of s).r4 s
by_entrance ByInterrupt code s = interrupts s
by_entrance ByDone code s = ends s
by_entrance ByBack code s = comes_back s
by_entrance ByTrap code s = unhandled code s

-- the stay of an entry with a code: first the running context is settled
unfoldable pub stay_of : KernelState → (code : ℕ) → Stay
stay_of s code = by_entrance (entrance_of s.running.context code) code (settled_state s)
