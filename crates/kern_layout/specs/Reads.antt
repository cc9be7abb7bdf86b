-- By which words the kernel's 64 KB are its state. `w` gives the word at a physical address, `b` the byte there.
use Rattle.std.specs.Prelude.{◌≡◌, ℕ, suc, false, ◌+◌, ◌-◌, ◌*◌, ◌<◌, List, [], ◌∷◌, length, slice_index, slice_index_or, Option, Some, None}
use Rattle.psx_base.specs.Registers.{no_registers}
use Rattle.psx_base.specs.KernelState.{ThreadContext, Thread, Free, Event, Frame, KernelState}
use Rattle.kern_layout.specs.Fields.{Fields, Block, Rows, Stack}
use Rattle.kern_layout.specs.Contexts.{thread_fields}
use Rattle.kern_layout.specs.Tasks.{FrameAt}
use Rattle.kern_layout.specs.HeapTable.{HeapAt}
use Rattle.kern_layout.specs.declared.places.TheConstants.{THREAD_SIZE, EVENT_SIZE, EVENT_CLASS, EVENT_STATUS, EVENT_SPEC, EVENT_MODE, EVENT_FUNCTION, FRAME_SIZE, CHAIN_SIZE, CHAIN_ELEMENTS, FILE_SIZE, CURRENT, NEXT, FRAME_COUNT, THREAD_COUNT, EVENT_COUNT, RANDOM, TOKEN, ERRNO, LINE_LENGTH, HEAP_BASE}
use Rattle.kern_layout.specs.Numbers.{threads_at, events_at, frames_at, chains_at, files_at, line_at, variables_at}

-- an event's control block
abbrev pub event_fields : ℕ → Event → Fields
event_fields i e = (EVENT_CLASS, e.class) ∷ (EVENT_STATUS, e.status) ∷ (EVENT_SPEC, e.spec) ∷ (EVENT_MODE, e.mode) ∷ (EVENT_FUNCTION, e.function) ∷ []

-- a free event, as at the start
abbrev pub no_event : Event
no_event = record { status = 0; class = 0; spec = 0; mode = 0; function = 0 }

-- a file: its mode, or 0 where it is closed
abbrev pub file_fields : ℕ → Option ℕ → Fields
file_fields n None = (0, 0) ∷ []
file_fields n (Some mode) = (0, mode) ∷ []

-- a chain: how many elements it has, and these, the head last
pub record ChainAt (w : ℕ → ℕ) (at : ℕ) (es : List ℕ) : Type 0 where
  pub count : w at ≡ length es
  pub elements : Stack w (at + CHAIN_ELEMENTS) es

-- a thread's number and 1 more, or 0 for none
abbrev pub next_word : Option ℕ → ℕ
next_word None = 0
next_word (Some n) = suc n

-- the variables, the two sizes among them
abbrev pub variables : KernelState → Fields
variables s = (CURRENT - variables_at, s.current) ∷ (NEXT - variables_at, next_word s.next) ∷ (FRAME_COUNT - variables_at, length s.frames) ∷ (THREAD_COUNT - variables_at, length s.threads) ∷ (EVENT_COUNT - variables_at, length s.events) ∷ (RANDOM - variables_at, s.random) ∷ (TOKEN - variables_at, s.token) ∷ (ERRNO - variables_at, s.errno) ∷ (LINE_LENGTH - variables_at, length s.line) ∷ (HEAP_BASE - variables_at, s.heap.base) ∷ []

-- the address of a thread's, an event's and a file's block, of a frame and of a chain
abbrev pub thread_at : ℕ → ℕ
thread_at n = threads_at + THREAD_SIZE * n

abbrev pub event_at : ℕ → ℕ
event_at i = events_at + EVENT_SIZE * i

abbrev pub frame_at : ℕ → ℕ
frame_at n = frames_at + FRAME_SIZE * n

abbrev pub chain_at : ℕ → ℕ
chain_at p = chains_at + CHAIN_SIZE * p

abbrev pub file_at : ℕ → ℕ
file_at n = files_at + FILE_SIZE * n

-- what a table has at a number that it doesn't have
abbrev pub no_context : ThreadContext
no_context = record { context = record { regs = no_registers; pending = None; pc = 0; next = 4; in_slot = false }; interrupts = false }

abbrev pub no_frame : Frame
no_frame = record { context = no_context; tasks = [] }

-- the elements of the tables, by number
abbrev pub thread : KernelState → ℕ → Thread
thread s n = slice_index_or s.threads n Free

abbrev pub event : KernelState → ℕ → Event
event s i = slice_index_or s.events i no_event

abbrev pub frame : KernelState → ℕ → Frame
frame s n = slice_index_or s.frames n no_frame

abbrev pub chain : KernelState → ℕ → List ℕ
chain s p = slice_index_or s.chains p []

-- the thread and event control blocks, by number; of the running thread the status alone is looked at
abbrev pub ThreadsAt : (ℕ → ℕ) → (current : ℕ) → List Thread → Type 0
ThreadsAt w current ts = Rows w threads_at THREAD_SIZE (thread_fields current) ts Free

abbrev pub EventsAt : (ℕ → ℕ) → List Event → Type 0
EventsAt w es = Rows w events_at EVENT_SIZE event_fields es no_event

-- the files
abbrev pub FilesAt : (ℕ → ℕ) → List (Option ℕ) → Type 0
FilesAt w fs = Rows w files_at FILE_SIZE file_fields fs None

-- the variables
abbrev pub VariablesAt : (ℕ → ℕ) → KernelState → Type 0
VariablesAt w s = Block w variables_at (variables s)

-- the frames, outermost first, and the chains
abbrev pub FramesAt : (ℕ → ℕ) → List Frame → Type 0
FramesAt w fs = (n : ℕ) → n < length fs → FrameAt w (frame_at n) (slice_index_or fs n no_frame)

abbrev pub ChainsAt : (ℕ → ℕ) → List (List ℕ) → Type 0
ChainsAt w cs = (p : ℕ) → p < length cs → ChainAt w (chain_at p) (slice_index_or cs p [])

-- the bytes of the line
abbrev pub LineAt : (ℕ → ℕ) → List ℕ → Type 0
LineAt b line = (k : ℕ) → k < length line → b (line_at + k) ≡ slice_index line k

-- the kernel's words and bytes read as the state; the registers in the running thread's block aren't looked at, and the user's memory is no part of this
pub record Reads (s : KernelState) (w b : ℕ → ℕ) : Type 0 where
  pub threads : ThreadsAt w s.current s.threads
  pub events : EventsAt w s.events
  pub frames : FramesAt w s.frames
  pub chains : ChainsAt w s.chains
  pub heap : HeapAt w s.heap
  pub files : FilesAt w s.files
  pub line : LineAt b s.line
  pub variables : VariablesAt w s
