-- That the entry's words make the stays of the written kernel machine.
use Rattle.std.specs.Prelude.{◌≡◌, ◌⊎◌, ℕ, suc, option_map, ◌+◌, ◌%◌, ◌^◌, ◌<◌, List, true, false, Option, Some, None, []}
use Rattle.psx_base.specs.Addresses.{is_mirrored}
use Rattle.psx_base.specs.Context.{taken}
use Rattle.psx_base.specs.Memory.{Memory, word}
use Rattle.psx_base.specs.Registers.{Registers}
use Rattle.psx_base.specs.KernelState.{ThreadContext, KernelState}
use Rattle.psx_cpu.specs.Processor.{Cop0, Core, Trap}
use Rattle.psx_cpu.specs.Exceptions.{enter}
use Rattle.kern_layout.specs.declared.places.TheConstants.{WORK_AREA}
use Rattle.kern_layout.specs.Fields.{Block}
use Rattle.kern_layout.specs.Contexts.{saved}
use Rattle.kern_layout.specs.Stands.{user_sr}
use Rattle.psx_base.specs.declared.stop.Stop.TheVariants.{BadPointer, BadThread, BadReturn, Deep}
use Rattle.psx_base.specs.declared.stop.Table.TheVariants.{A, B, C}
use Rattle.psx_base.specs.Items.{Entrance, ByA, ByB, ByC, BySyscall, ByInterrupt, ByBack}
use Rattle.psx_flow.specs.Run.{Access}
use Rattle.psx_flow.specs.Told.{ports}
use Rattle.abs_kernel.specs.declared.calls.CallId.{CallId}
use Rattle.abs_kernel.specs.CallTable.{served_call}
use Rattle.abs_kernel.specs.Cause.{entry_of}
use Rattle.abs_kernel.specs.Stay.{Stay, Return, Halt}
use Rattle.abs_kernel.specs.StayLaws.{EachEnd}
use Rattle.abs_kernel.specs.Calls.{call}
use Rattle.abs_kernel.specs.Returning.{comes_back}
use Rattle.abs_kernel.specs.Sys.{sys_delivers}
use Rattle.abs_kernel.specs.Interrupt.{interrupted, handles_interrupt}
use Rattle.kern_stay.specs.declared.places.TheConstants.{WAIT, BAD_POINTER, BAD_THREAD, BAD_RETURN, DEEP}
use Rattle.kern_stay.specs.Doors.{called_with}
use Rattle.abs_kernel.specs.Answered.{registers_of, with_answer}
use Rattle.abs_kernel.specs.KernelStep.{settled_state, stay_of}
use Rattle.kern_entry.specs.declared.places.TheConstants.{LEAVE, BACK, DELIVER, INTERRUPTS}
use Rattle.kern_entry.specs.Holding.{HoldsEntry}
use Rattle.kern_entry.specs.Tables.{TablesRead}
use Rattle.kern_entry.specs.Within.{Aim, Within}
use Rattle.kern_entry.specs.Made.{Spared, Made}

-- the processor on the kernel's side at an address, with nothing pending
abbrev pub kernel_at : Registers → Cop0 → Memory → ℕ → Core
kernel_at regs z m at = record {
  processor = record {
    context = record { regs = regs; pending = None; pc = at; next = (at + 4) % 2 ^ 32; in_slot = false };
    cop0 = z;
    latch = true;
  };
  bytes = m;
}

-- An exception on the user side of a state, with the entry's words in memory, and the tables with the calls' routines. The address of a SYSCALL has a physical one, since the guard has let it pass.
pub record Enters (at : CallId → ℕ) (k : Core) (s : KernelState) (trap : Trap) : Type 0 where
  pub context : k.processor.context ≡ s.running.context
  pub sr : k.processor.cop0.sr ≡ user_sr s.running.interrupts
  pub code : trap.code < 32
  pub mirrored : trap.code ≡ 8 → s.running.context.in_slot ≡ false → is_mirrored s.running.context.pc ≡ true
  pub words : HoldsEntry k.bytes
  pub tables : TablesRead at k.bytes

-- how many steps there are from the vector to a routine, to the return or to the halt
abbrev pub most_entry_steps : ℕ
most_entry_steps = 202

-- a stay that changes the running context alone
abbrev pub KeepsRest : KernelState → Stay → Type 0
KeepsRest s stay = EachEnd (λ t. t ≡ record s { running = t.running }) (λ stop memory. memory ≡ s.memory) stay

-- what an entry comes to that its own words don't make: a call's routine, or the listing of a return from a function that the kernel called, of a SYSCALL that delivers, or of an interrupt
pub data Routine : Type 0 where
  OfCall : (id : CallId) → Routine
  OfBack : Routine
  OfDelivery : Routine
  OfInterrupt : Routine

abbrev pub stay_by : Routine → KernelState → Stay
stay_by (OfCall id) s = call id s
stay_by OfBack s = comes_back s
stay_by OfDelivery s = sys_delivers s
stay_by OfInterrupt s = handles_interrupt s

-- the state in which it is entered: the running context is settled, and behind an interrupt it is at rest where it will go on
abbrev pub entered_by : Routine → KernelState → KernelState
entered_by (OfCall id) s = settled_state s
entered_by OfBack s = settled_state s
entered_by OfDelivery s = settled_state s
entered_by OfInterrupt s = interrupted (settled_state s)

-- where it stands, by the places of the calls
abbrev pub place_by : (CallId → ℕ) → Routine → ℕ
place_by at (OfCall id) = at id
place_by at OfBack = BACK
place_by at OfDelivery = DELIVER
place_by at OfInterrupt = INTERRUPTS

-- at a gate of a table the call that it has at the number
abbrev pub routine_by : Entrance → (number : ℕ) → Option Routine
routine_by ByA number = option_map OfCall (served_call A number)
routine_by ByB number = option_map OfCall (served_call B number)
routine_by ByC number = option_map OfCall (served_call C number)
routine_by ByBack number = Some OfBack
routine_by ByInterrupt number = Some OfInterrupt
routine_by BySyscall (suc (suc (suc (suc n)))) = Some OfDelivery
routine_by _ number = None

abbrev pub routine_of_entry : KernelState → (code : ℕ) → Option Routine
routine_of_entry s code = let e = entry_of s.running.context code in routine_by e.gate e.number

-- The processor stands at the routine of an entry, with the caller's context saved and its arguments in registers; no port was accessed.
pub record AtRoutine (at : CallId → ℕ) (first : Memory) (s : KernelState) (code : ℕ) (stay : Stay) (k : Core) (q : List Access) : Type 0 where
  pub routine : Routine
  pub by : routine_of_entry s code ≡ Some routine
  pub is : stay ≡ stay_by routine (entered_by routine s)
  pub regs : Registers
  pub cop0 : Cop0
  pub core : k ≡ kernel_at (called_with (registers_of (entered_by routine s)) regs) cop0 k.bytes (place_by at routine)
  pub off : cop0.sr % 2 ≡ 0
  pub out : (entered_by routine s).running.context.in_slot ≡ false
  pub area : Block (word k.bytes) WORK_AREA (saved (entered_by routine s).running)
  pub spared : Spared first k.bytes
  pub quiet : ports q ≡ []

-- either a stay is made, or it is that of a routine, at which the processor stands
abbrev pub Begins : (CallId → ℕ) → Memory → KernelState → (code : ℕ) → Stay → Aim
Begins at first s code stay k q = (KeepsRest s stay × Made first stay k q) ⊎ AtRoutine at first s code stay k q

-- From the vector, whatever the bus brings at each step, the words make the stay of the state and the code, or come to its routine.
abbrev pub StaysBegin : Type 0
StaysBegin = (at : CallId → ℕ) (k : Core) (s : KernelState) (trap : Trap) → Enters at k s trap → Within (Begins at k.bytes s trap.code (stay_of s trap.code)) most_entry_steps (record k { processor = enter k.processor trap }) []

-- ---- where routines arrive

-- the entry's words are in memory, and the work area holds a context with nothing pending
pub record HoldsContext (m : Memory) (t : ThreadContext) : Type 0 where
  pub words : HoldsEntry m
  pub area : Block (word m) WORK_AREA (saved t)
  pub settled : t.context.pending ≡ None

abbrev pub most_leave_steps : ℕ
most_leave_steps = 72

-- From LEAVE, with interrupts off, the words return to the context, with r2 as its answer and at its r31; its interrupts are as they were.
abbrev pub LeaveReturns : Type 0
LeaveReturns =
    (regs : Registers) (z : Cop0) (m : Memory) (t : ThreadContext) (s : KernelState) → z.sr % 2 ≡ 0 → HoldsContext m t → s.running ≡ record { context = with_answer (taken t.context t.context.regs.r31) regs.r2; interrupts = t.interrupts }
    → Within (Made m (Return s)) most_leave_steps (kernel_at regs z m LEAVE) []

-- From WAIT they return to the context as it is.
abbrev pub WaitReturns : Type 0
WaitReturns =
    (regs : Registers) (z : Cop0) (m : Memory) (t : ThreadContext) (s : KernelState) → z.sr % 2 ≡ 0 → HoldsContext m t → s.running ≡ record { context = taken t.context t.context.pc; interrupts = t.interrupts }
    → Within (Made m (Return s)) most_leave_steps (kernel_at regs z m WAIT) []

-- From BAD_POINTER they stop with the address in r8 and the context's r31.
abbrev pub BadPointerStops : Type 0
BadPointerStops =
    (regs : Registers) (z : Cop0) (m u : Memory) (t : ThreadContext) → z.sr % 2 ≡ 0 → HoldsContext m t
    → Within (Made m (Halt (BadPointer regs.r8 t.context.regs.r31) u)) most_leave_steps (kernel_at regs z m BAD_POINTER) []

-- From BAD_THREAD they stop with the handle in r8 and the context's r31.
abbrev pub BadThreadStops : Type 0
BadThreadStops =
    (regs : Registers) (z : Cop0) (m u : Memory) (t : ThreadContext) → z.sr % 2 ≡ 0 → HoldsContext m t
    → Within (Made m (Halt (BadThread regs.r8 t.context.regs.r31) u)) most_leave_steps (kernel_at regs z m BAD_THREAD) []

-- From BAD_RETURN they stop with the context's r31.
abbrev pub BadReturnStops : Type 0
BadReturnStops =
    (regs : Registers) (z : Cop0) (m u : Memory) (t : ThreadContext) → z.sr % 2 ≡ 0 → HoldsContext m t
    → Within (Made m (Halt (BadReturn t.context.regs.r31) u)) most_leave_steps (kernel_at regs z m BAD_RETURN) []

-- From DEEP they stop with the address in r31, whatever the work area holds.
abbrev pub DeepStops : Type 0
DeepStops = (regs : Registers) (z : Cop0) (m u : Memory) → z.sr % 2 ≡ 0 → HoldsEntry m → Within (Made m (Halt (Deep regs.r31) u)) most_leave_steps (kernel_at regs z m DEEP) []

-- exit, from where it is called
abbrev pub OwnCalls : (at : ℕ) → (KernelState → Stay) → Type 0
OwnCalls at stay =
    (s : KernelState) (regs : Registers) (z : Cop0) (m : Memory) → z.sr % 2 ≡ 0 → HoldsContext m s.running
    → Within (λ k q. KeepsRest s (stay s) × Made m (stay s) k q) most_entry_steps (kernel_at (called_with (registers_of s) regs) z m at) []
