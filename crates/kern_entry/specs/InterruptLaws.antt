-- Where an interrupt comes to.
use Rattle.std.specs.Prelude.{◌≡◌, ◌%◌, List, [], None}
use Rattle.psx_base.specs.Memory.{Memory, word}
use Rattle.psx_base.specs.Registers.{Registers}
use Rattle.psx_base.specs.KernelState.{KernelState}
use Rattle.psx_cpu.specs.Processor.{Core, Cop0, Trap}
use Rattle.psx_cpu.specs.Exceptions.{enter}
use Rattle.psx_flow.specs.Run.{Access}
use Rattle.psx_flow.specs.Told.{ports}
use Rattle.kern_layout.specs.declared.places.TheConstants.{WORK_AREA}
use Rattle.kern_layout.specs.Fields.{Block}
use Rattle.kern_layout.specs.Contexts.{saved}
use Rattle.kern_layout.specs.Stands.{user_sr}
use Rattle.abs_kernel.specs.Answered.{registers_of}
use Rattle.abs_kernel.specs.KernelStep.{settled_state}
use Rattle.abs_kernel.specs.Interrupt.{interrupted}
use Rattle.kern_stay.specs.Doors.{called_with}
use Rattle.kern_entry.specs.declared.places.TheConstants.{INTERRUPTS}
use Rattle.kern_entry.specs.Holding.{HoldsEntry}
use Rattle.kern_entry.specs.Made.{Spared}
use Rattle.kern_entry.specs.Within.{Within}
use Rattle.kern_entry.specs.EntryLaws.{kernel_at, most_entry_steps}

-- the program as an interrupt leaves it: its pending load written, and at rest where it will go on
abbrev pub rested : KernelState → KernelState
rested s = interrupted (settled_state s)

-- The processor stands at the listing of interrupts, with the program so in the work area; no port was accessed.
pub record AtInterrupt (first : Memory) (s : KernelState) (k : Core) (q : List Access) : Type 0 where
  pub regs : Registers
  pub cop0 : Cop0
  pub core : k ≡ kernel_at (called_with (registers_of (rested s)) regs) cop0 k.bytes INTERRUPTS
  pub off : cop0.sr % 2 ≡ 0
  pub area : Block (word k.bytes) WORK_AREA (saved (rested s).running)
  pub spared : Spared first k.bytes
  pub quiet : ports q ≡ []

-- the exception of an interrupt
abbrev pub interrupt_trap : Trap
interrupt_trap = record { code = 0; bad = None }

-- From the vector, whatever the bus brings at each step, an interrupt comes there.
abbrev pub InterruptsArrive : Type 0
InterruptsArrive =
    (k : Core) (s : KernelState) → k.processor.context ≡ s.running.context → k.processor.cop0.sr ≡ user_sr s.running.interrupts → HoldsEntry k.bytes
    → Within (AtInterrupt k.bytes s) most_entry_steps (record k { processor = enter k.processor interrupt_trap }) []
