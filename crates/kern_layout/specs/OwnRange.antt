-- Each reading depends on its own range alone: where the words of the range stay, it stays.
use Rattle.std.specs.Prelude.{ℕ, ◌+◌, length}
use Rattle.psx_base.specs.KernelState.{KernelState}
use Rattle.kern_layout.specs.HeapTable.{HeapAt}
use Rattle.kern_layout.specs.Stores.{Same, SameBytes}
use Rattle.kern_layout.specs.Reads.{Reads, ThreadsAt, EventsAt, FramesAt, frame_at, ChainsAt, FilesAt, LineAt, VariablesAt}
use Rattle.kern_layout.specs.Valid.{Valid}
use Rattle.kern_layout.specs.declared.places.TheConstants.{WORK_AREA, HEAP_FIRST, HEAP_SPARE}
use Rattle.kern_layout.specs.Numbers.{threads_at, events_at, frames_at, chains_at, heap_table_at, files_at, line_at, variables_at, variables_size}

abbrev pub ThreadsOwn : Type 0
ThreadsOwn = (s : KernelState) (w x : ℕ → ℕ) → Valid s → Same threads_at events_at w x → ThreadsAt w s.current s.threads → ThreadsAt x s.current s.threads

abbrev pub EventsOwn : Type 0
EventsOwn = (s : KernelState) (w x : ℕ → ℕ) → Valid s → Same events_at frames_at w x → EventsAt w s.events → EventsAt x s.events

-- only the frames that are there are looked at
abbrev pub FramesOwn : Type 0
FramesOwn = (s : KernelState) (w x : ℕ → ℕ) → Valid s → Same frames_at (frame_at (length s.frames)) w x → FramesAt w s.frames → FramesAt x s.frames

abbrev pub ChainsOwn : Type 0
ChainsOwn = (s : KernelState) (w x : ℕ → ℕ) → Valid s → Same chains_at heap_table_at w x → ChainsAt w s.chains → ChainsAt x s.chains

-- the heap has its table and two variables
abbrev pub HeapOwn : Type 0
HeapOwn = (s : KernelState) (w x : ℕ → ℕ) → Same heap_table_at files_at w x → Same HEAP_FIRST (HEAP_SPARE + 4) w x → HeapAt w s.heap → HeapAt x s.heap

abbrev pub FilesOwn : Type 0
FilesOwn = (s : KernelState) (w x : ℕ → ℕ) → Valid s → Same files_at line_at w x → FilesAt w s.files → FilesAt x s.files

abbrev pub LineOwn : Type 0
LineOwn = (s : KernelState) (b c : ℕ → ℕ) → Valid s → SameBytes line_at variables_at b c → LineAt b s.line → LineAt c s.line

abbrev pub VariablesOwn : Type 0
VariablesOwn = (s : KernelState) (w x : ℕ → ℕ) → Same variables_at (variables_at + variables_size) w x → VariablesAt w s → VariablesAt x s

-- no reading looks at the places behind the last frame, nor from the work area on
abbrev pub FreeWords : Type 0
FreeWords = (s : KernelState) (w x b c : ℕ → ℕ) → Valid s → SameBytes line_at variables_at b c → Same threads_at (frame_at (length s.frames)) w x → Same chains_at line_at w x → Same variables_at WORK_AREA w x → Reads s w b → Reads s x c
