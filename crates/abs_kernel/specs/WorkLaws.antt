-- What holds of tasks, of deliveries, of frames and of the contexts that they keep.
use Rattle.std.specs.Prelude.{◌≡◌, ◌≢◌, ℕ, suc, ◌<◌, ◌≤◌, true, false, List, [], ◌∷◌, ◌++◌, length, map, slice_index_or, All, Option, Some, None, if◌then◌else◌}
use Rattle.psx_base.specs.Context.{IsAtRest}
use Rattle.psx_base.specs.KernelState.{ThreadContext, Used, Event, Task, Scan, Frame, KernelState}
use Rattle.psx_base.specs.declared.stop.Stop.TheVariants.{Deep}
use Rattle.kern_layout.specs.Reads.{thread, event, no_event}
use Rattle.kern_layout.specs.Valid.{IsUsed, TasksFit, Valid}
use Rattle.abs_kernel.specs.Stay.{Return, Halt}
use Rattle.abs_kernel.specs.Answered.{registers_of}
use Rattle.abs_kernel.specs.StayLaws.{EachReturn}
use Rattle.abs_kernel.specs.Callback.{callback, pushed, calls_back}
use Rattle.abs_kernel.specs.Scan.{is_called, is_marked, made_ready}
use Rattle.abs_kernel.specs.TakingUp.{taken_up, resumed}
use Rattle.abs_kernel.specs.Tasks.{work}
use Rattle.abs_kernel.specs.Returning.{innermost, popped, comes_back, return_from_exception, delivers}

-- ---- states in which tasks are done

-- the thread to take up is used and isn't the running one; unlike in a valid state the last frame may have gone
abbrev pub IsNext : KernelState → Option ℕ → Type 0
IsNext s None = Unit {0}
IsNext s (Some n) = (n < length s.threads) × IsUsed (thread s n) × (n ≢ s.current)

-- all else is valid, the context is at rest, and the tasks are those that a frame may have
pub record Working (s : KernelState) (c : ThreadContext) (ts : List Task) : Type 0 where
  pub valid : Valid (record s { next = None })
  pub next : IsNext s s.next
  pub context : IsAtRest c.context
  pub tasks : TasksFit (length s.events) ts

-- a valid state that goes on at rest
abbrev pub GoesOn : KernelState → Type 0
GoesOn s = Valid s × IsAtRest s.running.context

abbrev pub WorkKeepsValid : Type 0
WorkKeepsValid = (s : KernelState) (c : ThreadContext) (ts : List Task) (value ra : ℕ) → Working s c ts → EachReturn GoesOn (work s c ts value ra)

-- so does a return from a callback in a valid state, in either way, and a delivery
abbrev pub BackKeepsValid : Type 0
BackKeepsValid = (s : KernelState) → Valid s → EachReturn GoesOn (comes_back s) × EachReturn GoesOn (return_from_exception s)

abbrev pub DeliveryKeepsValid : Type 0
DeliveryKeepsValid = (s : KernelState) (c : ThreadContext) (class spec ra : ℕ) → Valid s → IsAtRest c.context → EachReturn GoesOn (delivers s c class spec ra)

-- ---- deliveries

abbrev pub delivered : (class spec : ℕ) → Event → Event
delivered class spec e = if is_marked class spec e then made_ready e else e

-- Where no function is to be called, one stay makes ready exactly the events that are to become so, and all other events stay.
abbrev pub DeliversToAll : Type 0
DeliversToAll = (s : KernelState) (c : ThreadContext) (class spec ra : ℕ) → All (λ e. is_called class spec e ≡ false) s.events
    → delivers s c class spec ra ≡ resumed (record s { events = map (delivered class spec) s.events }) c

-- the events from one number on up to another are as a delivery leaves them, and the others as they were
pub record Delivered (class spec from to : ℕ) (old new : List Event) : Type 0 where
  pub count : length new ≡ length old
  pub within : (k : ℕ) → from ≤ k → k < to → slice_index_or new k no_event ≡ delivered class spec (slice_index_or old k no_event)
  pub before : (k : ℕ) → k < from → slice_index_or new k no_event ≡ slice_index_or old k no_event
  pub behind : (k : ℕ) → to ≤ k → slice_index_or new k no_event ≡ slice_index_or old k no_event

-- none of the events in between has a function to be called
abbrev pub NoneCalled : (class spec from to : ℕ) → List Event → Type 0
NoneCalled class spec from to es = (k : ℕ) → from ≤ k → k < to → is_called class spec (slice_index_or es k no_event) ≡ false

-- A delivery goes on from a number, with the events as they are then, whatever a callback has done to them: up to the last one, before the other tasks,
abbrev pub DeliversToTheLast : Type 0
DeliversToTheLast = (s : KernelState) (c : ThreadContext) (ts : List Task) (class spec from value ra : ℕ) → from ≤ length s.events → NoneCalled class spec from (length s.events) s.events
    → (es : List Event) × Delivered class spec from (length s.events) s.events es × (work s c (Scan class spec from ∷ ts) value ra ≡ work (record s { events = es }) c ts value ra)

-- or up to the first whose function is to be called, from behind which it will go on.
abbrev pub DeliversToACall : Type 0
DeliversToACall = (s : KernelState) (c : ThreadContext) (ts : List Task) (class spec from to value ra : ℕ) → from ≤ to → to < length s.events → NoneCalled class spec from to s.events → is_called class spec (event s to) ≡ true
    → (es : List Event) × Delivered class spec from to s.events es × (work s c (Scan class spec from ∷ ts) value ra ≡ calls_back (record s { events = es }) c (Scan class spec (suc to) ∷ ts) (event s to).function 0 ra)

-- ---- frames and contexts

-- the last frame that was put there is the first that is taken away
abbrev pub LastInFirstOut : Type 0
LastInFirstOut = (s : KernelState) (f : Frame) → (innermost (pushed s f).frames ≡ Some f) × (popped (pushed s f) ≡ s)

-- so whatever callbacks have done, the return with these frames goes on with the last one's tasks
abbrev pub GoesOnWithLast : Type 0
GoesOnWithLast = (s : KernelState) (fs : List Frame) (f : Frame) → s.frames ≡ fs ++ (f ∷ [])
    → comes_back s ≡ work (record s { frames = fs }) f.context f.tasks (registers_of s).r2 (registers_of s).r31

-- ReturnFromException takes up its context, whatever tasks it has
abbrev pub DropsTasks : Type 0
DropsTasks = (s : KernelState) (fs : List Frame) (f : Frame) → s.frames ≡ fs ++ (f ∷ []) → return_from_exception s ≡ resumed (record s { frames = fs }) f.context

-- a function is called with a frame where there are fewer than eight, and with eight the run stops
abbrev pub EightFrames : Type 0
EightFrames =
    (s : KernelState) (c : ThreadContext) (left : List Task) (function argument ra : ℕ)
    → (length s.frames < 8 → calls_back s c left function argument ra ≡ Return (record (pushed s (record { context = c; tasks = left })) { running = callback c.context function argument }))
    × (8 ≤ length s.frames → calls_back s c left function argument ra ≡ Halt (Deep ra) s.memory)

-- a context at rest is taken up as it is, with all its registers, HI, LO and its interrupts
abbrev pub TakenUpAsKept : Type 0
TakenUpAsKept = (c : ThreadContext) → IsAtRest c.context → taken_up c ≡ c

-- A function that changes nothing but the running context, and returns, leaves what was there before it was called; with no task left, the context is taken up.
abbrev pub CallbackLeavesNothing : Type 0
CallbackLeavesNothing = (s : KernelState) (c running : ThreadContext) → comes_back (record (pushed s (record { context = c; tasks = [] })) { running = running }) ≡ resumed (record s { running = running }) c

-- Another thread is taken up, with all its registers, HI, LO and interrupts; the slot of the one that ran keeps a context, and each other slot what it had.
pub record TakesUpThread (s : KernelState) (n : ℕ) (kept other : ThreadContext) (t : KernelState) : Type 0 where
  pub running : t.running ≡ other
  pub current : t.current ≡ n
  pub none : t.next ≡ None
  pub slot : thread t s.current ≡ Used kept
  pub others : (k : ℕ) → k ≢ s.current → thread t k ≡ thread s k

-- Where a callback has named a thread and the last frame goes, that thread is taken up, and the running one's slot keeps the context of the frame.
abbrev pub NamedIsTakenUp : Type 0
NamedIsTakenUp =
    (s : KernelState) (f : Frame) (n : ℕ) (own other : ThreadContext) → s.frames ≡ f ∷ [] → IsAtRest f.context.context → s.next ≡ Some n → s.current < length s.threads → thread s s.current ≡ Used own → thread s n ≡ Used other
    → (t : KernelState) × TakesUpThread s n f.context other t × (f.tasks ≡ [] → comes_back s ≡ Return t) × (return_from_exception s ≡ Return t)

-- while a frame is left, the context is taken up that the return gives
abbrev pub NamedWaits : Type 0
NamedWaits = (s : KernelState) (f : Frame) (fs : List Frame) (c : ThreadContext) → s.frames ≡ f ∷ fs → resumed s c ≡ Return (record s { running = taken_up c })
