-- What holds of deliveries over all their stays: whatever the functions do that they call.
use Rattle.std.specs.Prelude.{◌≡◌, ◌⊎◌, ℕ, suc, ◌<◌, ◌≤◌, true, List, [], ◌∷◌, length, Some}
use Rattle.psx_base.specs.declared.stop.Table.TheVariants.{B}
use Rattle.psx_base.specs.Context.{taken}
use Rattle.psx_base.specs.Items.{ByB, BySyscall, ByBack}
use Rattle.psx_base.specs.KernelState.{ThreadContext, Event, Task, Line, Scan, Frame, KernelState}
use Rattle.kern_layout.specs.Reads.{event}
use Rattle.abs_kernel.specs.declared.calls.CallId.TheVariants.{B07}
use Rattle.abs_kernel.specs.CallTable.{served_call}
use Rattle.abs_kernel.specs.Cause.{entrance_of}
use Rattle.abs_kernel.specs.Answered.{registers_of, with_answer}
use Rattle.abs_kernel.specs.Callback.{callback, pushed}
use Rattle.abs_kernel.specs.Scan.{is_called}
use Rattle.abs_kernel.specs.TakingUp.{resumed_by}
use Rattle.abs_kernel.specs.Tasks.{class_of_line, SPEC_OF_LINES, work}
use Rattle.abs_kernel.specs.Sys.{behind_syscall, SYSCALL_CLASS, SYSCALL_SPEC}
use Rattle.abs_kernel.specs.KernelStep.{settled_state}
use Rattle.abs_kernel.specs.Played.{Returned, played}
use Rattle.abs_kernel.specs.StayLaws.{settled_registers}
use Rattle.abs_kernel.specs.ThreadLaws.{Move, Stays, Moves}
use Rattle.abs_kernel.specs.WorkLaws.{delivered, Delivered, NoneCalled}
use Rattle.kern_event.specs.FrameLaws.{Above}

-- ---- the functions that a delivery calls

-- A function that the kernel called: what is done in it, the state in which it returns at gate E0h, the code and the port answers of that return's stay, and the state that this leads to.
pub record CallbackRun : Type 0 where
  pub moves : List Move
  pub returns : KernelState
  pub code : ℕ
  pub answers : List ℕ
  pub after : KernelState

-- It begins in state t, and has returned: its frame, upon d others, is the last one again. Anything may have been done in it, other functions called and other deliveries too.
pub record ComesBack (d : ℕ) (run : CallbackRun) (t : KernelState) : Type 0 where
  pub done : Above (suc d) run.moves t run.returns
  pub last : length run.returns.frames ≡ suc d
  pub gate : entrance_of run.returns.running.context run.code ≡ ByBack
  pub goes_on : Moves (Stays run.code run.answers) run.returns run.after

-- such calls follow one another, each in the state that the return of the one before has led to
abbrev pub Follow : (d : ℕ) → List CallbackRun → (t u : KernelState) → Type 0
Follow d [] t u = u ≡ t
Follow d (run ∷ runs) t u = ComesBack d run t × Follow d runs run.after u

-- the state in which the tasks that are left go on behind a function, upon these frames
abbrev pub behind : List Frame → CallbackRun → KernelState
behind fs run = record (settled_state run.returns) { frames = fs }

-- ---- the scan in one stay

-- In the stay that leads from s to t the scan comes to the events from one number on to another. Those before it that are to become ready do, and the function of the other one is called;
-- its frame keeps the context, and the scan from the next number on before the other tasks.
pub record CallsAt (class spec : ℕ) (c : ThreadContext) (ts : List Task) (from to : ℕ) (s t : KernelState) : Type 0 where
  pub low : from ≤ to
  pub few : to < length s.events
  pub none : NoneCalled class spec from to s.events
  pub called : is_called class spec (event s to) ≡ true
  pub ready : Delivered class spec from to s.events t.events
  pub begins : t ≡ record (pushed (record s { events = t.events }) (record { context = c; tasks = Scan class spec (suc to) ∷ ts })) { running = callback c.context (event s to).function 0 }

-- Or it comes to all events from the number on, and none of them has a function to be called. Those that are to become ready do, and the tasks behind the scan lead to t.
pub record Finishes (class spec : ℕ) (c : ThreadContext) (ts : List Task) (from value ra : ℕ) (s t : KernelState) : Type 0 where
  pub none : NoneCalled class spec from (length s.events) s.events
  pub events : List Event
  pub ready : Delivered class spec from (length s.events) s.events events
  pub answers : List ℕ
  pub leads : (played (work (record s { events = events }) c ts value ra) answers).end ≡ Returned t

-- ---- deliveries

-- Each stay's scan goes on from behind the event at which the last one called a function, over the events as they are then, until it finishes. So it comes to each number once, in rising order.
abbrev pub Reaches : (class spec : ℕ) (c : ThreadContext) (ts : List Task) → List CallbackRun → (from value ra : ℕ) (s t : KernelState) → Type 0
Reaches class spec c ts [] from value ra s t = Finishes class spec c ts from value ra s t ⊎ ((to : ℕ) × CallsAt class spec c ts from to s t)
Reaches class spec c ts (run ∷ runs) from value ra s t =
    let v = behind s.frames run in
    Finishes class spec c ts from value ra s t ⊎ ((to : ℕ) × CallsAt class spec c ts from to s t × Reaches class spec c ts runs (suc to) (registers_of v).r2 (registers_of v).r31 v run.after)

-- a scan does so before any tasks, whatever the functions do that it calls
abbrev pub ScanReaches : Type 0
ScanReaches = (s t u : KernelState) (c : ThreadContext) (ts : List Task) (class spec from value ra : ℕ) (answers : List ℕ) (runs : List CallbackRun)
    → (played (work s c (Scan class spec from ∷ ts) value ra) answers).end ≡ Returned t → Follow (length s.frames) runs t u → Reaches class spec c ts runs from value ra s t

-- so does the scan of an interrupt's line, from the first event on
abbrev pub LineReaches : Type 0
LineReaches = (s t u : KernelState) (c : ThreadContext) (ts : List Task) (n value ra : ℕ) (answers : List ℕ) (runs : List CallbackRun)
    → (played (work s c (Line n ∷ ts) value ra) answers).end ≡ Returned t → Follow (length s.frames) runs t u → Reaches (class_of_line n) SPEC_OF_LINES c ts runs 0 value ra s t

-- The last stay of a delivery leads to t: no event from the number on has a function to be called, those that are to become ready do, and the context is taken up.
pub record Ends (class spec : ℕ) (c : ThreadContext) (from : ℕ) (s t : KernelState) : Type 0 where
  pub none : NoneCalled class spec from (length s.events) s.events
  pub ready : Delivered class spec from (length s.events) s.events t.events
  pub taken_up : t ≡ resumed_by (record s { events = t.events }) c s.next s.frames

-- Each of the calls is that of an event which the delivery comes to, the stay of the last one's return ends it, and so it comes to all events from the number on.
abbrev pub ReachesAll : (class spec : ℕ) (c : ThreadContext) → List CallbackRun → (from : ℕ) (s t : KernelState) → Type 0
ReachesAll class spec c [] from s t = Ends class spec c from s t
ReachesAll class spec c (run ∷ runs) from s t = (to : ℕ) × CallsAt class spec c [] from to s t × ReachesAll class spec c runs (suc to) (behind s.frames run) run.after

-- DeliverEvent reaches all events, where its functions have returned and there are as many frames as before.
abbrev pub DeliverEventReachesAll : Type 0
DeliverEventReachesAll = (s t u : KernelState) (code : ℕ) (answers : List ℕ) (runs : List CallbackRun)
    → entrance_of s.running.context code ≡ ByB → served_call B (settled_registers s).r9 ≡ Some B07 → Moves (Stays code answers) s t
    → Follow (length s.frames) runs t u → length u.frames ≡ length s.frames
    → let v = settled_state s in let r = registers_of v in ReachesAll r.r4 r.r5 (record v.running { context = with_answer (taken v.running.context r.r31) 0 }) runs 0 v t

-- so does a SYSCALL of 4 and above
abbrev pub SyscallReachesAll : Type 0
SyscallReachesAll = (s t u : KernelState) (code : ℕ) (answers : List ℕ) (runs : List CallbackRun)
    → entrance_of s.running.context code ≡ BySyscall → 4 ≤ (settled_registers s).r4 → Moves (Stays code answers) s t
    → Follow (length s.frames) runs t u → length u.frames ≡ length s.frames
    → let v = settled_state s in let x = v.running.context in ReachesAll SYSCALL_CLASS SYSCALL_SPEC (record v.running { context = taken x (behind_syscall x) }) runs 0 v t

-- ---- one event in all stays of a delivery

-- In the stay from s to t an event is come to: it becomes ready where it is to, stays else, and where its function is to be called this begins.
pub record Judged (class spec : ℕ) (c : ThreadContext) (k : ℕ) (s t : KernelState) : Type 0 where
  pub ready : event t k ≡ delivered class spec (event s k)
  pub called : is_called class spec (event s k) ≡ true → t.running ≡ callback c.context (event s k).function 0

-- in none of the delivery's stays it is changed
abbrev pub Untouched : (k : ℕ) → List CallbackRun → (s t : KernelState) → Type 0
Untouched k [] s t = event t k ≡ event s k
Untouched k (run ∷ runs) s t = (event t k ≡ event s k) × Untouched k runs (behind s.frames run) run.after

-- in one of them it is come to, and in no other one it is changed
abbrev pub Once : (class spec : ℕ) (c : ThreadContext) (k : ℕ) → List CallbackRun → (s t : KernelState) → Type 0
Once class spec c k [] s t = Judged class spec c k s t
Once class spec c k (run ∷ runs) s t =
    let v = behind s.frames run in (Judged class spec c k s t × Untouched k runs v run.after) ⊎ ((event t k ≡ event s k) × Once class spec c k runs v run.after)

-- So is each event, as it is when the delivery comes to it.
abbrev pub EachOnce : Type 0
EachOnce = (s t : KernelState) (c : ThreadContext) (class spec : ℕ) (runs : List CallbackRun) → ReachesAll class spec c runs 0 s t → (k : ℕ) → Once class spec c k runs s t
