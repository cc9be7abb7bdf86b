-- Which states of the kernel are valid.
use Rattle.std.specs.Prelude.{◌≡◌, ◌≢◌, ◌⊎◌, ℕ, ◌+◌, ◌-◌, ◌%◌, ◌^◌, ◌<◌, ◌≤◌, Bool, true, false, IsTrue, List, [], ◌∷◌, length, All, sum_by, Option, Some, None}
use Rattle.psx_base.specs.Addresses.{user}
use Rattle.psx_base.specs.FirstBad.{first_bad_of}
use Rattle.psx_base.specs.Context.{Context, IsAtRest}
use Rattle.psx_base.specs.KernelState.{Thread, Free, Used, Event, Task, Element, Second, Line, Scan, Frame, Heap, KernelState}
use Rattle.kern_layout.specs.Tasks.{InOrder, elements_of, lines_of}
use Rattle.kern_layout.specs.Reads.{thread}
use Rattle.kern_layout.specs.declared.places.TheConstants.{EVENT_FREE, EVENT_DISABLED, EVENT_BUSY, EVENT_READY, HEAP_ENTRIES}

-- a used thread's context is at rest
abbrev pub ThreadRests : Thread → Type 0
ThreadRests Free = Unit {0}
ThreadRests (Used t) = IsAtRest t.context

abbrev pub IsUsed : Thread → Type 0
IsUsed Free = ⊥
IsUsed (Used t) = Unit {0}

-- outside a slot the next address follows; in a slot the branch before it is in user memory
pub record RunningFits (c : Context) : Type 0 where
  pub follows : c.in_slot ≡ false → c.next ≡ (c.pc + 4) % 2 ^ 32
  pub branch : c.in_slot ≡ true → IsTrue (user ((c.pc + (2 ^ 32 - 4)) % 2 ^ 32))

-- the thread to take up is used and isn't the running one, and a frame is there
abbrev pub NextFits : KernelState → Option ℕ → Type 0
NextFits s None = Unit {0}
NextFits s (Some n) = (n < length s.threads) × IsUsed (thread s n) × (n ≢ s.current) × (0 < length s.frames)

-- an event's status: free, disabled, busy or ready
abbrev pub IsStatus : ℕ → Type 0
IsStatus v = (v ≡ EVENT_FREE) ⊎ ((v ≡ EVENT_DISABLED) ⊎ ((v ≡ EVENT_BUSY) ⊎ (v ≡ EVENT_READY)))

-- an element of a chain: a multiple of 4 with 12 bytes of user memory
pub record IsElement (e : ℕ) : Type 0 where
  pub aligned : e % 4 ≡ 0
  pub bytes : first_bad_of e 12 ≡ None

-- the lines that are handled
abbrev pub IsLine : ℕ → Type 0
IsLine n = (n ≡ 0) ⊎ ((n ≡ 4) ⊎ ((n ≡ 5) ⊎ (n ≡ 6)))

-- a task, with so many events
abbrev pub TaskFits : ℕ → Task → Type 0
TaskFits events (Element e) = IsElement e
TaskFits events (Second e) = IsElement e
TaskFits events (Line n) = IsLine n
TaskFits events (Scan class spec i) = i ≤ events

abbrev pub AllFit : ℕ → List Task → Type 0
AllFit events [] = Unit {0}
AllFit events (t ∷ ts) = TaskFits events t × AllFit events ts

-- after a scan no elements follow
abbrev pub NoneAfterScan : List Task → Type 0
NoneAfterScan [] = Unit {0}
NoneAfterScan (Element e ∷ ts) = Unit {0}
NoneAfterScan (Second e ∷ ts) = Unit {0}
NoneAfterScan (Line n ∷ ts) = Unit {0}
NoneAfterScan (Scan class spec i ∷ ts) = elements_of ts ≡ []

pub record TasksFit (events : ℕ) (ts : List Task) : Type 0 where
  pub order : InOrder ts
  pub after_scan : NoneAfterScan ts
  pub elements : length (elements_of ts) ≤ 32
  pub lines : length (lines_of ts) ≤ 4
  pub each : AllFit events ts

pub record FrameFits (events : ℕ) (f : Frame) : Type 0 where
  pub rests : IsAtRest f.context.context
  pub tasks : TasksFit events f.tasks

pub record ChainFits (elements : List ℕ) : Type 0 where
  pub few : length elements ≤ 8
  pub each : All IsElement elements

-- a block's size
pub record BlockFits (b : ℕ × Bool) : Type 0 where
  pub multiple : b.0 % 8 ≡ 0
  pub some : b.0 ≢ 0

-- of two neighbours one is used
abbrev pub NoneFreeBoth : List (ℕ × Bool) → Type 0
NoneFreeBoth [] = Unit {0}
NoneFreeBoth (a ∷ []) = Unit {0}
NoneFreeBoth (a ∷ b ∷ bs) = ((a.1 ≡ true) ⊎ (b.1 ≡ true)) × NoneFreeBoth (b ∷ bs)

-- the bytes of all blocks, from the base on, are user memory
pub record HeapFits (h : Heap) : Type 0 where
  pub base : h.base % 8 ≡ 0
  pub few : length h.blocks ≤ HEAP_ENTRIES
  pub sizes : All BlockFits h.blocks
  pub joined : NoneFreeBoth h.blocks
  pub bytes : first_bad_of h.base (sum_by (λ (b : ℕ × Bool). b.0) h.blocks) ≡ None

-- a file's mode: read, write or both
abbrev pub FileFits : Option ℕ → Type 0
FileFits None = Unit {0}
FileFits (Some mode) = (1 ≤ mode) × (mode ≤ 3)

-- a valid state: 4 to 16 threads and 16 to 64 events, as the sizes say, 4 chains and 16 files
pub record Valid (s : KernelState) : Type 0 where
  pub threads_least : 4 ≤ length s.threads
  pub threads_most : length s.threads ≤ 16
  pub threads : All ThreadRests s.threads
  pub current : s.current < length s.threads
  pub running : RunningFits s.running.context
  pub next : NextFits s s.next
  pub events_least : 16 ≤ length s.events
  pub events_most : length s.events ≤ 64
  pub statuses : All (λ (e : Event). IsStatus e.status) s.events
  pub frames_most : length s.frames ≤ 8
  pub frames : All (FrameFits (length s.events)) s.frames
  pub chains_count : length s.chains ≡ 4
  pub chains : All ChainFits s.chains
  pub heap : HeapFits s.heap
  pub files_count : length s.files ≡ 16
  pub files : All FileFits s.files
  pub line : length s.line ≤ 254
