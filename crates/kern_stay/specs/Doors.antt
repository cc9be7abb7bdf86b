-- What is asked of a routine: from where the table's entry leads, with the caller's context saved, its words come to one of the doors, where what is left of the stay is made.
use Rattle.std.specs.Prelude.{◌≡◌, ℕ, ◌+◌, ◌*◌, ◌^◌, ◌<◌, ◌≤◌, ◌⊎◌, false, cond, nat_eq, List, [], ◌∷◌, ◌++◌, None}
use Rattle.psx_base.specs.declared.stop.Stop.{Stop}
use Rattle.psx_base.specs.declared.stop.Stop.TheVariants.{BadPointer, BadThread, BadReturn, Deep}
use Rattle.psx_base.specs.Context.{IsAtRest, taken, epc_of}
use Rattle.psx_base.specs.Memory.{Memory, byte, word}
use Rattle.psx_base.specs.Registers.{Registers, register}
use Rattle.psx_base.specs.KernelState.{ThreadContext, Task, KernelState}
use Rattle.psx_cpu.specs.Processor.{Cop0}
use Rattle.psx_flow.specs.Tree.{Tree}
use Rattle.psx_flow.specs.Run.{Run, Access}
use Rattle.psx_flow.specs.Told.{ports}
use Rattle.psx_flow.specs.Kernel.{kernel_words}
use Rattle.psx_flow.specs.Reaches.{IsPlaced, ArePlaced}
use Rattle.psx_flow.specs.Meets.{Goal, Meets, calls}
use Rattle.kern_layout.specs.declared.places.TheConstants.{WORK_AREA}
use Rattle.kern_layout.specs.Fields.{Block}
use Rattle.kern_layout.specs.Contexts.{saved}
use Rattle.kern_layout.specs.Tasks.{under_way, TasksAt}
use Rattle.kern_layout.specs.Reads.{Reads}
use Rattle.kern_layout.specs.Stands.{SameUser}
use Rattle.kern_layout.specs.Valid.{Valid}
use Rattle.abs_kernel.specs.Stay.{Stay, Return, Halt, Touch}
use Rattle.abs_kernel.specs.Answered.{registers_of, with_running, with_answer}
use Rattle.abs_kernel.specs.Callback.{calls_back}
use Rattle.abs_kernel.specs.Tasks.{work}
use Rattle.abs_kernel.specs.TakingUp.{resumed}
use Rattle.abs_kernel.specs.WorkLaws.{Working}
use Rattle.kern_stay.specs.declared.places.TheConstants.{LEAVE, WAIT, WORK, PUSH, TAKE_UP, BAD_POINTER, BAD_THREAD, BAD_RETURN, DEEP}
use Rattle.kern_stay.specs.Follows.{after, Follows}
use Rattle.kern_stay.specs.Shared.{tested_there}

-- While the kernel runs, a memory stands for a state: the work area holds the running context, the tables and variables are the state's, and so is user memory.
pub record Holds (s : KernelState) (m : Memory) : Type 0 where
  pub settled : s.running.context.pending ≡ None
  pub area : Block (word m) WORK_AREA (saved s.running)
  pub reads : Reads s (word m) (byte m)
  pub user : SameUser m s.memory

-- ---- the doors: at each, what is left of the stay

-- at LEAVE: the state to return with is one that the memory stands for, with the answer of r2, at the caller's r31
pub record Answers (t : KernelState) (e : Run) : Type 0 where
  pub state : KernelState
  pub is : t ≡ with_running state (with_answer (taken state.running.context (registers_of state).r31) e.regs.r2)
  pub holds : Holds state e.bytes

-- at WAIT: the same, at the caller's gate and without an answer
pub record Waits (t : KernelState) (e : Run) : Type 0 where
  pub state : KernelState
  pub out : state.running.context.in_slot ≡ false
  pub is : t ≡ with_running state (taken state.running.context (epc_of state.running.context))
  pub holds : Holds state e.bytes

-- at BAD_POINTER and BAD_THREAD: the stop names what r8 has, and the caller's r31
pub record Refuses (named : (value ra : ℕ) → Stop) (stop : Stop) (memory : Memory) (e : Run) : Type 0 where
  pub state : KernelState
  pub is : stop ≡ named e.regs.r8 (registers_of state).r31
  pub memory_is : memory ≡ state.memory
  pub holds : Holds state e.bytes

-- At DEEP: the stop names the address in r31, a caller's or that of an interrupt.
pub record Overflows (stop : Stop) (memory : Memory) (e : Run) : Type 0 where
  pub is : stop ≡ Deep e.regs.r31
  pub user : SameUser e.bytes memory

-- at BAD_RETURN: the stop names the caller's r31
pub record Strays (stop : Stop) (memory : Memory) (e : Run) : Type 0 where
  pub state : KernelState
  pub is : stop ≡ BadReturn (registers_of state).r31
  pub memory_is : memory ≡ state.memory
  pub holds : Holds state e.bytes

abbrev pub AtReturn : KernelState → ℕ → Goal
AtReturn t to e = cond (nat_eq to LEAVE) (Answers t e) (cond (nat_eq to WAIT) (Waits t e) ⊥)

abbrev pub AtHalt : Stop → Memory → ℕ → Goal
AtHalt stop memory to e =
    cond (nat_eq to BAD_POINTER) (Refuses BadPointer stop memory e) (cond (nat_eq to BAD_THREAD) (Refuses BadThread stop memory e) (cond (nat_eq to DEEP) (Overflows stop memory e) (cond (nat_eq to BAD_RETURN) (Strays stop memory e) ⊥)))

-- ---- further doors: a stay isn't at its end there, and the listing at the door makes what is left

-- At WORK: the work area holds a context and the tasks that come before it is taken up, and what is left of the stay is to do these. r2 has the answer of the function that has returned, and r31 what a stop names.
pub record Works (rest : Stay) (e : Run) : Type 0 where
  pub state : KernelState
  pub context : ThreadContext
  pub tasks : List Task
  pub is : rest ≡ work state context tasks e.regs.r2 e.regs.r31
  pub working : Working state context tasks
  pub holds : Holds (record state { running = context }) e.bytes
  pub there : TasksAt (word e.bytes) WORK_AREA tasks

-- at WORK with no task under way, as an interrupt comes there
pub record BeginsWork (rest : Stay) (e : Run) : Type 0 where
  pub works : Works rest e
  pub none : under_way works.tasks ≡ []

-- At PUSH: the work area holds a context and the tasks that will be left. r16 is the function that is called, r17 its argument, and r18 has what a stop names.
pub record CallsBack (rest : Stay) (e : Run) : Type 0 where
  pub state : KernelState
  pub context : ThreadContext
  pub tasks : List Task
  pub is : rest ≡ calls_back state context tasks e.regs.r16 e.regs.r17 e.regs.r18
  pub working : Working state context tasks
  pub holds : Holds (record state { running = context }) e.bytes
  pub there : TasksAt (word e.bytes) WORK_AREA tasks

-- at TAKE_UP: no task is left, and the work area holds the context
pub record TakesUp (rest : Stay) (e : Run) : Type 0 where
  pub state : KernelState
  pub context : ThreadContext
  pub is : rest ≡ resumed state context
  pub working : Working state context []
  pub holds : Holds (record state { running = context }) e.bytes

-- where a listing may go before the stay is at its end, by what is left: a routine to WORK, that one's to PUSH and to TAKE_UP, and these nowhere
abbrev pub AtWork : Stay → (to : ℕ) → Goal
AtWork rest to e = (to ≡ WORK) × Works rest e

abbrev pub AtWorkBegun : Stay → (to : ℕ) → Goal
AtWorkBegun rest to e = (to ≡ WORK) × BeginsWork rest e

abbrev pub AtCall : Stay → (to : ℕ) → Goal
AtCall rest to e = cond (nat_eq to PUSH) (CallsBack rest e) (cond (nat_eq to TAKE_UP) (TakesUp rest e) ⊥)

abbrev pub Nowhere : Stay → (to : ℕ) → Goal
Nowhere rest to e = ⊥

-- the steps of a call up to a door, with 128 more for each unit that is touched where no port is accessed
abbrev pub most_steps : ℕ
most_steps = 8192

-- those of a call of the heap
abbrev pub most_heap_steps : ℕ
most_heap_steps = 32768

-- what is left may be that behind what a stay touches first
abbrev pub Behind : (Stay → Type 0) → Stay → Type 0
Behind P (Touch bytes next) = P (Touch bytes next) ⊎ Behind P next
Behind P stay = P stay

-- A further door is come to in so many steps, whatever is touched, and in no more than those of a call.
abbrev pub AtFurther : (Stay → (to : ℕ) → Goal) → Stay → (most to : ℕ) → Goal
AtFurther further rest most to e = (e.steps ≤ most) × (e.steps ≤ most_steps) × Behind (λ x. further x to e) rest

-- ---- the ends of a stay

-- Behind its accesses to ports a stay is at its end, but for what it touches. A unit that it touches is worth so many steps.
abbrev pub Ends : (worth : ℕ) → Stay → (most to : ℕ) → Goal
Ends worth (Return t) most to e = (e.steps ≤ most) × AtReturn t to e
Ends worth (Halt stop memory) most to e = (e.steps ≤ most) × AtHalt stop memory to e
Ends worth (Touch bytes next) most to e = Ends worth next (most + worth * bytes) to e
Ends worth _ most to e = ⊥

-- A unit is worth 128 steps where no port is accessed. A listing that accesses ports has its bound alone.
abbrev pub worth_of : List Access → ℕ
worth_of [] = 128
worth_of (x ∷ q) = 0

-- a stay comes through a door, to its end or by a further one
pub record ThroughTo (further : Stay → (to : ℕ) → Goal) (stay : Stay) (most to : ℕ) (e : Run) : Type 0 where
  pub told : List Access
  pub ports : ports e.seen ≡ told
  pub follows : Follows stay told
  pub ends : Ends (worth_of told) (after stay told) most to e ⊎ AtFurther further (after stay told) most to e

-- as that of a routine does
abbrev pub Through : Stay → (most to : ℕ) → Goal
Through stay most to e = ThroughTo AtWork stay most to e

-- it comes to a further door alone, in so many steps, whatever is touched and whatever ports are accessed
pub record GoesOnWithin (further : Stay → (to : ℕ) → Goal) (stay : Stay) (most to : ℕ) (e : Run) : Type 0 where
  pub told : List Access
  pub ports : ports e.seen ≡ told
  pub follows : Follows stay told
  pub goes : AtFurther further (after stay told) most to e

-- ---- a routine

-- it is entered in a state
pub record Arrives (s : KernelState) (m : Memory) : Type 0 where
  pub valid : Valid s
  pub out : s.running.context.in_slot ≡ false
  pub holds : Holds s m
  pub words : (n : ℕ) → register (registers_of s) n < 2 ^ 32

-- with the caller's arguments and stack in registers
abbrev pub called_with : Registers → Registers → Registers
called_with a d = record d { r4 = a.r4; r5 = a.r5; r6 = a.r6; r7 = a.r7; r29 = a.r29 }

abbrev pub begun : Registers → Cop0 → Memory → Run
begun c z m = record { regs = c; cop0 = z; bytes = m; seen = []; passed = 0; steps = 0 }

-- A listing at an address serves a call, within so many steps. It calls listings of its own range, each of which calls those behind it, and the four accesses to user memory.
abbrev pub Serves : (own : List (ℕ × Tree)) → (most : ℕ) → (KernelState → Stay) → ℕ → Tree → Type 0
Serves own most stay at T =
    (s : KernelState) (d : Registers) (z : Cop0) (m : Memory) → Arrives s m
    → Meets kernel_words (calls kernel_words (own ++ tested_there)) T at (λ _. ⊥) (λ to e. Through (stay s) most to e) (begun (called_with (registers_of s) d) z m)

-- a call is served, within so many steps, by a listing that stands at an address, and so do those of its own range that it calls
pub record IsServed (m : Memory) (most : ℕ) (stay : KernelState → Stay) (at : ℕ) : Type 0 where
  pub there : at ≡ 0 → ⊥
  pub own : List (ℕ × Tree)
  pub own_placed : ArePlaced kernel_words m own
  pub listing : Tree
  pub placed : IsPlaced kernel_words m at listing
  pub serves : Serves own most stay at listing

-- ---- the listings of the further doors

-- the steps of each up to the next door
abbrev pub most_work_steps : ℕ
most_work_steps = 7424

abbrev pub most_push_steps : ℕ
most_push_steps = 768

abbrev pub most_take_up_steps : ℕ
most_take_up_steps = 512

-- those of a return from a function that the kernel called, and of a SYSCALL that delivers, up to WORK
abbrev pub most_back_steps : ℕ
most_back_steps = 1024

-- A listing at an address makes what is left of a stay at a door, within so many steps up to its end or to a further door.
abbrev pub Makes : (own : List (ℕ × Tree)) → (most : ℕ) → (door : Stay → Goal) → (further : Stay → (to : ℕ) → Goal) → ℕ → Tree → Type 0
Makes own most door further at T =
    (rest : Stay) (d : Registers) (z : Cop0) (m : Memory) → door rest (begun d z m)
    → Meets kernel_words (calls kernel_words (own ++ tested_there)) T at (λ _. ⊥) (λ to e. ThroughTo further rest most to e) (begun d z m)

-- that is so of one that stands there, and so do those of its own range that it calls
pub record IsMade (m : Memory) (most : ℕ) (door : Stay → Goal) (further : Stay → (to : ℕ) → Goal) (at : ℕ) : Type 0 where
  pub own : List (ℕ × Tree)
  pub own_placed : ArePlaced kernel_words m own
  pub listing : Tree
  pub placed : IsPlaced kernel_words m at listing
  pub makes : Makes own most door further at listing

-- ---- interrupts, whose steps have one bound

-- those from an interrupt's own listing up to WORK, and from WORK on where no task is under way
abbrev pub most_interrupt_steps : ℕ
most_interrupt_steps = 384

abbrev pub most_begun_steps : ℕ
most_begun_steps = 6464

-- a listing that serves a stay, as a routine does, of a program at rest, goes on to further doors alone
abbrev pub ServesWithin : (own : List (ℕ × Tree)) → (most : ℕ) → (further : Stay → (to : ℕ) → Goal) → (KernelState → Stay) → ℕ → Tree → Type 0
ServesWithin own most further stay at T =
    (s : KernelState) (d : Registers) (z : Cop0) (m : Memory) → Arrives s m → IsAtRest s.running.context
    → Meets kernel_words (calls kernel_words (own ++ tested_there)) T at (λ _. ⊥) (λ to e. GoesOnWithin further (stay s) most to e) (begun (called_with (registers_of s) d) z m)

pub record IsServedWithin (m : Memory) (most : ℕ) (further : Stay → (to : ℕ) → Goal) (stay : KernelState → Stay) (at : ℕ) : Type 0 where
  pub own : List (ℕ × Tree)
  pub own_placed : ArePlaced kernel_words m own
  pub listing : Tree
  pub placed : IsPlaced kernel_words m at listing
  pub serves : ServesWithin own most further stay at listing

-- and so does one that makes what is left of a stay at a door
abbrev pub MakesWithin : (own : List (ℕ × Tree)) → (most : ℕ) → (door : Stay → Goal) → (further : Stay → (to : ℕ) → Goal) → ℕ → Tree → Type 0
MakesWithin own most door further at T =
    (rest : Stay) (d : Registers) (z : Cop0) (m : Memory) → door rest (begun d z m)
    → Meets kernel_words (calls kernel_words (own ++ tested_there)) T at (λ _. ⊥) (λ to e. GoesOnWithin further rest most to e) (begun d z m)

pub record IsMadeWithin (m : Memory) (most : ℕ) (door : Stay → Goal) (further : Stay → (to : ℕ) → Goal) (at : ℕ) : Type 0 where
  pub own : List (ℕ × Tree)
  pub own_placed : ArePlaced kernel_words m own
  pub listing : Tree
  pub placed : IsPlaced kernel_words m at listing
  pub makes : MakesWithin own most door further at listing
