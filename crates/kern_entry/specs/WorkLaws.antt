-- What the listings of tasks, of calls of functions and of their returns make, wherever the entry's words stand.
use Rattle.psx_base.specs.Memory.{Memory}
use Rattle.abs_kernel.specs.Returning.{comes_back}
use Rattle.abs_kernel.specs.Sys.{sys_delivers}
use Rattle.abs_kernel.specs.Interrupt.{handles_interrupt}
use Rattle.kern_stay.specs.declared.places.TheConstants.{WORK, PUSH, TAKE_UP}
use Rattle.kern_stay.specs.Doors.{Works, BeginsWork, CallsBack, TakesUp, AtWorkBegun, AtCall, Nowhere, IsServed, IsMade, IsServedWithin, IsMadeWithin, most_work_steps, most_push_steps, most_take_up_steps, most_back_steps, most_interrupt_steps, most_begun_steps}
use Rattle.kern_entry.specs.declared.places.TheConstants.{BACK, DELIVER, INTERRUPTS}
use Rattle.kern_entry.specs.Holding.{HoldsEntry}

-- From where an interrupt comes, with the program at rest at EPC in the work area, the elements and lines are put there as tasks, and WORK does them: from no task under way in fewer steps.
abbrev pub InterruptServes : Type 0
InterruptServes = (m : Memory) → HoldsEntry m → IsServedWithin m most_interrupt_steps AtWorkBegun handles_interrupt INTERRUPTS

abbrev pub BegunWorkServes : Type 0
BegunWorkServes = (m : Memory) → HoldsEntry m → IsMadeWithin m most_begun_steps BeginsWork AtCall WORK

-- from WORK the tasks are done, up to the call of a function or to where none is left
abbrev pub WorkServes : Type 0
WorkServes = (m : Memory) → HoldsEntry m → IsMade m most_work_steps Works AtCall WORK

-- from PUSH a function is called, or there is a frame too many
abbrev pub PushServes : Type 0
PushServes = (m : Memory) → HoldsEntry m → IsMade m most_push_steps CallsBack Nowhere PUSH

-- from TAKE_UP the context is taken up, or the thread that a callback has named
abbrev pub TakeUpServes : Type 0
TakeUpServes = (m : Memory) → HoldsEntry m → IsMade m most_take_up_steps TakesUp Nowhere TAKE_UP

-- the return of a function comes to WORK, as a routine does that is entered with the returning context
abbrev pub BackServes : Type 0
BackServes = (m : Memory) → HoldsEntry m → IsServed m most_back_steps comes_back BACK

-- so does a SYSCALL that delivers
abbrev pub DeliverServes : Type 0
DeliverServes = (m : Memory) → HoldsEntry m → IsServed m most_back_steps sys_delivers DELIVER
