-- What holds of interrupts: of the lines that they handle, and of the contexts that they interrupt.
use Rattle.std.specs.Prelude.{◌≡◌, ◌≢◌, ◌⊎◌, ℕ, ◌<◌, true, false, List, [], ◌∷◌, length, map, All, Some}
use Rattle.std.specs.List.{concat, filter}
use Rattle.psx_base.specs.Ports.{I_STAT}
use Rattle.psx_base.specs.Context.{epc_of, IsAtRest}
use Rattle.psx_base.specs.KernelState.{ThreadContext, Used, Event, Task, Line, Frame, KernelState}
use Rattle.kern_layout.specs.Reads.{thread, frame}
use Rattle.kern_layout.specs.Valid.{Valid}
use Rattle.abs_kernel.specs.Stay.{Return, Tell}
use Rattle.abs_kernel.specs.Answered.{registers_of, answered}
use Rattle.abs_kernel.specs.Threads.{number_of, is_used}
use Rattle.abs_kernel.specs.Scan.{is_called}
use Rattle.abs_kernel.specs.Tasks.{without_line, class_of_line, SPEC_OF_LINES, work}
use Rattle.abs_kernel.specs.Returning.{comes_back}
use Rattle.abs_kernel.specs.Interrupt.{interrupted, handled, is_due, interrupt_tasks}
use Rattle.abs_kernel.specs.ChangeThread.{change_thread}
use Rattle.abs_kernel.specs.KernelStep.{settled_state, stay_of}
use Rattle.abs_kernel.specs.StayLaws.{EachReturn, settled_registers}
use Rattle.abs_kernel.specs.ThreadLaws.{Move, Moves, Away}
use Rattle.abs_kernel.specs.WorkLaws.{delivered}

-- ---- lines

-- A line is taken back by a write of I_STAT, and where none of the events has a function to be called, exactly the busy events of mode 2000h with the line's class and spec 2 become ready.
abbrev pub without_functions : (class spec : ℕ) → List Event → Type 0
without_functions class spec es = All (λ e. is_called class spec e ≡ false) es

abbrev pub LineIsHandled : Type 0
LineIsHandled =
    (s : KernelState) (c : ThreadContext) (ts : List Task) (n value ra : ℕ) → without_functions (class_of_line n) SPEC_OF_LINES s.events
    → work s c (Line n ∷ ts) value ra ≡ Tell I_STAT (without_line n) (work (record s { events = map (delivered (class_of_line n) SPEC_OF_LINES) s.events }) c ts value ra)

-- an interrupt's own lines: those of VBLANK and the counters that are pending and enabled, in the order of their numbers; without elements they are its tasks
abbrev pub OnlyLines : Type 0
OnlyLines = (s : KernelState) (stat mask : ℕ) → concat s.chains ≡ [] → interrupt_tasks s stat mask ≡ map Line (filter (is_due stat mask) handled)

-- ---- the context that is interrupted

-- It has the program's registers, HI, LO and interrupts, with a load that was pending written; pc and k0 are the interrupted instruction, in a slot its branch, and k1 is 0.
pub record IsInterrupted (s : KernelState) (c : ThreadContext) : Type 0 where
  pub regs : c.context.regs ≡ record (settled_registers s) { r26 = epc_of s.running.context; r27 = 0 }
  pub pc : c.context.pc ≡ epc_of s.running.context
  pub rests : IsAtRest c.context
  pub interrupts : c.interrupts ≡ s.running.interrupts

abbrev pub interrupted_context : KernelState → ThreadContext
interrupted_context s = (interrupted (settled_state s)).running

abbrev pub ContextInterrupted : Type 0
ContextInterrupted = (s : KernelState) → IsInterrupted s (interrupted_context s)

-- thread n runs, and frame d, from 0 on, keeps a context
pub record Sleeps (n d : ℕ) (c : ThreadContext) (s : KernelState) : Type 0 where
  pub current : s.current ≡ n
  pub there : d < length s.frames
  pub keeps : (frame s d).context ≡ c

-- The interrupt's stay takes it up, with the frames as they were; or a function is called, in the next frame, which keeps it.
abbrev pub EntryTakesUp : Type 0
EntryTakesUp =
    (s : KernelState) → Valid s
    → EachReturn (λ t. ((t.current ≡ s.current) × (t.frames ≡ s.frames) × (t.running ≡ interrupted_context s)) ⊎ Sleeps s.current (length s.frames) (interrupted_context s) t) (stay_of s 0)

-- such moves lead from a state to another, and before each of them there are more frames than d
abbrev pub Under : (d : ℕ) → List Move → (s u : KernelState) → Type 0
Under d [] s u = u ≡ s
Under d (move ∷ moves) s u = (d < length s.frames) × (t : KernelState) × Moves move s t × Under d moves t u

-- Frame d has gone: its context runs in thread n; or another thread runs, and thread n's slot keeps the context, where it is used.
pub record Woken (n d : ℕ) (c : ThreadContext) (u : KernelState) : Type 0 where
  pub frames : length u.frames ≡ d
  pub goes_on : ((u.current ≡ n) × (u.running ≡ c)) ⊎ ((u.current ≢ n) × (is_used (thread u n) ≡ true → thread u n ≡ Used c))

-- Whatever is done in functions that the kernel calls, a frame keeps its context until it has gone.
abbrev pub FrameTakesUp : Type 0
FrameTakesUp = (s u : KernelState) (n d : ℕ) (c : ThreadContext) (moves : List Move) → Valid s → IsAtRest c.context → Sleeps n d c s → Under d moves s u → Sleeps n d c u ⊎ Woken n d c u

-- a thread's slot keeps its context while other threads run and it isn't closed, and this is what runs when it does
abbrev pub ThreadTakesUp : Type 0
ThreadTakesUp = (s u : KernelState) (n : ℕ) (c : ThreadContext) (moves : List Move) → n ≢ s.current → thread s n ≡ Used c → Away n moves s u → u.current ≡ n → u.running ≡ c

-- ---- preemption

-- ChangeThread in a function that the kernel called names the thread for later, and answers 1
abbrev pub NamesThread : Type 0
NamesThread =
    (s : KernelState) (f : Frame) (fs : List Frame) (other : ThreadContext) → let n = number_of (registers_of s).r4 in
    s.frames ≡ f ∷ fs → thread s n ≡ Used other → n ≢ s.current → change_thread s ≡ answered (record s { next = Some n }) 1

-- When the last frame, with no task left, has returned, that thread runs, as its slot had it, and the thread that ran has the frame's context with all its registers when it is next taken up.
abbrev pub Preempts : Type 0
Preempts =
    (s : KernelState) (f : Frame) (n : ℕ) (own other : ThreadContext)
    → s.frames ≡ f ∷ [] → f.tasks ≡ [] → IsAtRest f.context.context → s.next ≡ Some n → n ≢ s.current → s.current < length s.threads → thread s s.current ≡ Used own → thread s n ≡ Used other
    → (t : KernelState) × (comes_back s ≡ Return t) × (t.current ≡ n) × (t.running ≡ other) × ((moves : List Move) (u : KernelState) → Away s.current moves t u → u.current ≡ s.current → u.running ≡ f.context)
