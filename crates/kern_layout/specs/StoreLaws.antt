-- What stores make of a state, table by table. `w` and `b` are the words and bytes before, `x` and `c` those after.
use Rattle.std.specs.Prelude.{◌≡◌, ◌≢◌, ℕ, suc, ◌+◌, ◌*◌, ◌%◌, ◌<◌, ◌≤◌, Bool, List, [], ◌∷◌, ◌++◌, length, take, Option, slice_set}
use Rattle.psx_base.specs.KernelState.{ThreadContext, Thread, Free, Event, Task, Element, Line, Frame, KernelState}
use Rattle.kern_layout.specs.Fields.{Block, Stack}
use Rattle.kern_layout.specs.Contexts.{saved, thread_fields}
use Rattle.kern_layout.specs.Tasks.{elements_of, lines_of, under_way_fields, TasksAt, FrameAt}
use Rattle.kern_layout.specs.HeapTable.{HeapAt, entry_fields, cell_at, LinksWritten}
use Rattle.kern_layout.specs.Stores.{Same, SameOutside, SameBytes, put, with_field, with_thread, with_event, with_frame, with_chain}
use Rattle.kern_layout.specs.Reads.{Reads, thread, event, frame, chain, event_fields, file_fields, thread_at, event_at, frame_at, file_at, chain_at, ChainAt, variables}
use Rattle.kern_layout.specs.Valid.{Valid}
use Rattle.kern_layout.specs.declared.places.TheConstants.{THREAD_FREE, EVENT_STATUS, THREAD_SIZE, EVENT_SIZE, FRAME_SIZE, FRAME_KIND, FRAME_ELEMENT_COUNT, FRAME_LINE_COUNT, KIND_NONE, WORK_AREA, CHAIN_SIZE, CHAIN_ELEMENTS, HEAP_ENTRIES, HEAP_ENTRY_SIZE, HEAP_BLOCK_SIZE, NEXT, FRAME_COUNT, THREAD_COUNT, LINE_LENGTH, HEAP_BASE, HEAP_FIRST, HEAP_SPARE}
use Rattle.kern_layout.specs.Numbers.{saved_register, threads_at, chains_at, line_at, variables_at, variables_size, heap_table_at, files_at}

-- where the first words and bytes read as the valid state s, the second read as t
abbrev pub Turns : (s t : KernelState) → (w x b c : ℕ → ℕ) → Type 0
Turns s t w x b c = Valid s → Reads s w b → Reads t x c

-- the same, where no byte of the line is written
abbrev pub TurnsWords : (s t : KernelState) → (w x b c : ℕ → ℕ) → Type 0
TurnsWords s t w x b c = SameBytes line_at variables_at b c → Turns s t w x b c

-- ---- threads

-- only thread n's block is written, and then has the fields of t
abbrev pub ThreadWritten : Type 0
ThreadWritten = (s : KernelState) (w x b c : ℕ → ℕ) (n : ℕ) (t : Thread) → n < length s.threads → SameOutside (thread_at n) (thread_at n + THREAD_SIZE) w x → Block x (thread_at n) (thread_fields s.current n t) → TurnsWords s (with_thread s n t) w x b c

-- v is stored to the field at o, which makes the thread's fields those of t
abbrev pub ThreadStored : Type 0
ThreadStored = (s : KernelState) (w b c : ℕ → ℕ) (n o v : ℕ) (t : Thread) → n < length s.threads → o < THREAD_SIZE → with_field (thread_fields s.current n (thread s n)) o v ≡ thread_fields s.current n t → TurnsWords s (with_thread s n t) w (put w (thread_at n + o) v) b c

-- a thread's status becomes free: the words of its context aren't looked at any more
abbrev pub ThreadFreed : Type 0
ThreadFreed = (s : KernelState) (w b c : ℕ → ℕ) (n : ℕ) → n < length s.threads → TurnsWords s (with_thread s n Free) w (put w (thread_at n) THREAD_FREE) b c

-- the running thread's block is written with all fields of t, and n, as the running thread's number
abbrev pub ThreadSwitched : Type 0
ThreadSwitched = (s : KernelState) (w x b c : ℕ → ℕ) (n : ℕ) (t : Thread) → Same threads_at (thread_at s.current) w x → Same (thread_at s.current + THREAD_SIZE) line_at w x → Same NEXT WORK_AREA w x → Block x (thread_at s.current) (thread_fields n s.current t) → x variables_at ≡ n → TurnsWords s record s { threads = slice_set s.threads s.current t; current = n } w x b c

-- ---- events

abbrev pub EventWritten : Type 0
EventWritten = (s : KernelState) (w x b c : ℕ → ℕ) (i : ℕ) (e : Event) → i < length s.events → SameOutside (event_at i) (event_at i + EVENT_SIZE) w x → Block x (event_at i) (event_fields i e) → TurnsWords s (with_event s i e) w x b c

abbrev pub EventStored : Type 0
EventStored = (s : KernelState) (w b c : ℕ → ℕ) (i o v : ℕ) (e : Event) → i < length s.events → o < EVENT_SIZE → with_field (event_fields i (event s i)) o v ≡ event_fields i e → TurnsWords s (with_event s i e) w (put w (event_at i + o) v) b c

-- an event's status is stored
abbrev pub EventStatusStored : Type 0
EventStatusStored = (s : KernelState) (w b c : ℕ → ℕ) (i v : ℕ) → i < length s.events → TurnsWords s (with_event s i record (event s i) { status = v }) w (put w (event_at i + EVENT_STATUS) v) b c

-- ---- files

abbrev pub FileStored : Type 0
FileStored = (s : KernelState) (w b c : ℕ → ℕ) (n v : ℕ) (f : Option ℕ) → n < 16 → file_fields n f ≡ (0, v) ∷ [] → TurnsWords s record s { files = slice_set s.files n f } w (put w (file_at n) v) b c

-- ---- variables

-- v is stored to the variable at o, which is none of the counts of the tables, the running thread's number and the line's length
abbrev pub VariableStored : Type 0
VariableStored = (s : KernelState) (w b c : ℕ → ℕ) (o v : ℕ) (next : Option ℕ) (random token errno base : ℕ) → let t = record s { next = next; random = random; token = token; errno = errno; heap = record s.heap { base = base } } in o < variables_size → with_field (variables s) o v ≡ variables t → TurnsWords s t w (put w (variables_at + o) v) b c

-- ---- frames

abbrev pub FrameWritten : Type 0
FrameWritten = (s : KernelState) (w x b c : ℕ → ℕ) (n : ℕ) (f : Frame) → n < length s.frames → SameOutside (frame_at n) (frame_at n + FRAME_SIZE) w x → FrameAt x (frame_at n) f → TurnsWords s (with_frame s n f) w x b c

-- a field of the context that frame n keeps
abbrev pub FrameContextStored : Type 0
FrameContextStored = (s : KernelState) (w b c : ℕ → ℕ) (n o v : ℕ) (t : ThreadContext) → n < length s.frames → o < FRAME_KIND → with_field (saved (frame s n).context) o v ≡ saved t → TurnsWords s (with_frame s n record (frame s n) { context = t }) w (put w (frame_at n + o) v) b c

-- a field of the task under way that frame n keeps
abbrev pub FrameTaskStored : Type 0
FrameTaskStored = (s : KernelState) (w b c : ℕ → ℕ) (n o v : ℕ) (us : List Task) → n < length s.frames → FRAME_KIND ≤ o → o < FRAME_ELEMENT_COUNT → with_field (under_way_fields (frame s n).tasks) o v ≡ under_way_fields us → elements_of us ≡ elements_of (frame s n).tasks → lines_of us ≡ lines_of (frame s n).tasks
    → TurnsWords s (with_frame s n record (frame s n) { tasks = us }) w (put w (frame_at n + o) v) b c

-- a frame is written behind the last one, and counted
abbrev pub FramePushed : Type 0
FramePushed = (s : KernelState) (w x b c : ℕ → ℕ) (f : Frame) → Same threads_at (frame_at (length s.frames)) w x → Same chains_at line_at w x → Same variables_at FRAME_COUNT w x → Same THREAD_COUNT WORK_AREA w x → FrameAt x (frame_at (length s.frames)) f → x FRAME_COUNT ≡ suc (length s.frames) → TurnsWords s record s { frames = s.frames ++ f ∷ [] } w x b c

-- the frames from the n-th on are counted no more
abbrev pub FramesDropped : Type 0
FramesDropped = (s : KernelState) (w b c : ℕ → ℕ) (n : ℕ) → n ≤ length s.frames → TurnsWords s record s { frames = take n s.frames } w (put w FRAME_COUNT n) b c

-- ---- the tasks of a frame or of the work area, at a multiple of 4

-- few enough for their places
pub record TasksHaveRoom (ts : List Task) : Type 0 where
  pub elements : length (elements_of ts) ≤ 32
  pub lines : length (lines_of ts) ≤ 4

-- a field of the task under way
abbrev pub TaskStored : Type 0
TaskStored = (w : ℕ → ℕ) (at o v : ℕ) (ts us : List Task) → at % 4 ≡ 0 → TasksHaveRoom ts → FRAME_KIND ≤ o → o < FRAME_ELEMENT_COUNT → with_field (under_way_fields ts) o v ≡ under_way_fields us → elements_of us ≡ elements_of ts → lines_of us ≡ lines_of ts → TasksAt w at ts → TasksAt (put w (at + o) v) at us

-- the task under way is done: the kind becomes that of none
abbrev pub TaskDone : Type 0
TaskDone = (w : ℕ → ℕ) (at : ℕ) (ts us : List Task) → at % 4 ≡ 0 → TasksHaveRoom ts → under_way_fields us ≡ (FRAME_KIND, KIND_NONE) ∷ [] → elements_of us ≡ elements_of ts → lines_of us ≡ lines_of ts → TasksAt w at ts → TasksAt (put w (at + FRAME_KIND) KIND_NONE) at us

-- the first element or line is taken, where no task is under way: one less is counted
abbrev pub ElementTaken : Type 0
ElementTaken = (w : ℕ → ℕ) (at e : ℕ) (ts : List Task) → at % 4 ≡ 0 → TasksHaveRoom ts → under_way_fields ts ≡ (FRAME_KIND, KIND_NONE) ∷ [] → TasksAt w at (Element e ∷ ts) → TasksAt (put w (at + FRAME_ELEMENT_COUNT) (length (elements_of ts))) at ts

abbrev pub LineTaken : Type 0
LineTaken = (w : ℕ → ℕ) (at n : ℕ) (ts : List Task) → at % 4 ≡ 0 → TasksHaveRoom ts → under_way_fields ts ≡ (FRAME_KIND, KIND_NONE) ∷ [] → TasksAt w at (Line n ∷ ts) → TasksAt (put w (at + FRAME_LINE_COUNT) (length (lines_of ts))) at ts

-- ---- chains

abbrev pub ChainWritten : Type 0
ChainWritten = (s : KernelState) (w x b c : ℕ → ℕ) (p : ℕ) (es : List ℕ) → p < 4 → SameOutside (chain_at p) (chain_at p + CHAIN_SIZE) w x → ChainAt x (chain_at p) es → TurnsWords s (with_chain s p es) w x b c

-- an element becomes the head: its word behind the others, and the count
abbrev pub ChainLinked : Type 0
ChainLinked = (s : KernelState) (w b c : ℕ → ℕ) (p e : ℕ) → p < 4 → let n = length (chain s p) in n < 8 → TurnsWords s (with_chain s p (e ∷ chain s p)) w (put (put w (chain_at p + CHAIN_ELEMENTS + 4 * n) e) (chain_at p) (suc n)) b c

-- the head is taken out: one less is counted
abbrev pub ChainUnlinked : Type 0
ChainUnlinked = (s : KernelState) (w b c : ℕ → ℕ) (p e : ℕ) (es : List ℕ) → p < 4 → chain s p ≡ e ∷ es → TurnsWords s (with_chain s p es) w (put w (chain_at p) (length es)) b c

-- ---- the line

-- byte k is stored
abbrev pub LineStored : Type 0
LineStored = (s : KernelState) (w x b c : ℕ → ℕ) (k v : ℕ) → k < length s.line → Same threads_at line_at w x → Same variables_at WORK_AREA w x → c (line_at + k) ≡ v → ((j : ℕ) → j ≢ k → j < length s.line → c (line_at + j) ≡ b (line_at + j)) → Turns s record s { line = slice_set s.line k v } w x b c

-- a byte is stored behind the line, and counted
abbrev pub LineAppended : Type 0
LineAppended = (s : KernelState) (w x b c : ℕ → ℕ) (v : ℕ) → Same threads_at line_at w x → Same variables_at LINE_LENGTH w x → Same HEAP_BASE WORK_AREA w x → x LINE_LENGTH ≡ suc (length s.line) → SameBytes line_at (line_at + length s.line) b c → c (line_at + length s.line) ≡ v → Turns s record s { line = s.line ++ v ∷ [] } w x b c

-- the length 0 is stored
abbrev pub LineEmptied : Type 0
LineEmptied = (s : KernelState) (w b c : ℕ → ℕ) → Turns s record s { line = [] } w (put w LINE_LENGTH 0) b c

-- ---- the heap: `xs` are the blocks before the one that is meant, `ys` those behind it

-- the table and its two variables are written, and have these blocks
abbrev pub HeapWritten : Type 0
HeapWritten = (s : KernelState) (w x b c : ℕ → ℕ) (blocks : List (ℕ × Bool)) → Same threads_at heap_table_at w x → Same files_at (variables_at + variables_size) w x → HeapAt x record s.heap { blocks = blocks } → TurnsWords s record s { heap = record s.heap { blocks = blocks } } w x b c

-- v is stored to the size or the use of a block y, which makes it z
abbrev pub BlockStored : Type 0
BlockStored = (s : KernelState) (w b c : ℕ → ℕ) (xs ys : List (ℕ × Bool)) (y z : ℕ × Bool) (o v : ℕ) → s.heap.blocks ≡ xs ++ y ∷ ys → HEAP_BLOCK_SIZE ≤ o → o < HEAP_ENTRY_SIZE → with_field (entry_fields y) o v ≡ entry_fields z
    → TurnsWords s record s { heap = record s.heap { blocks = xs ++ z ∷ ys } } w (put w (cell_at w HEAP_FIRST (suc (length xs)) + o) v) b c

-- The entry e of a block is unlinked: what named it names what it named, and it is the first spare one, with the size 0.
abbrev pub BlockUnlinked : Type 0
BlockUnlinked = (s : KernelState) (w x b c : ℕ → ℕ) (xs ys : List (ℕ × Bool)) (y : ℕ × Bool) → s.heap.blocks ≡ xs ++ y ∷ ys → let d = cell_at w HEAP_FIRST (length xs) in let e = w d in x d ≡ w e → x e ≡ w HEAP_SPARE → x (e + HEAP_BLOCK_SIZE) ≡ 0 → x HEAP_SPARE ≡ e → LinksWritten w x d e
    → TurnsWords s record s { heap = record s.heap { blocks = xs ++ ys } } w x b c

-- The first spare entry e is linked with a block z: it is named where the rest of the list was, and names that.
abbrev pub BlockLinked : Type 0
BlockLinked = (s : KernelState) (w x b c : ℕ → ℕ) (xs ys : List (ℕ × Bool)) (z : ℕ × Bool) → s.heap.blocks ≡ xs ++ ys → length s.heap.blocks < HEAP_ENTRIES → let d = cell_at w HEAP_FIRST (length xs) in let e = w HEAP_SPARE in x HEAP_SPARE ≡ w e → x d ≡ e → x e ≡ w d → Block x e (entry_fields z) → LinksWritten w x d e
    → TurnsWords s record s { heap = record s.heap { blocks = xs ++ z ∷ ys } } w x b c

-- ---- copies

-- the words at multiples of 4 of a block, from one offset to another, are copied to another block
abbrev pub Copied : (w x : ℕ → ℕ) (at to low high : ℕ) → Type 0
Copied w x at to low high = (o : ℕ) → o % 4 ≡ 0 → low ≤ o → o < high → x (to + o) ≡ w (at + o)

-- a saved context is copied: from the work area to a thread's block, say
abbrev pub ContextCopied : Type 0
ContextCopied = (w x : ℕ → ℕ) (at to : ℕ) (t : ThreadContext) → Copied w x at to (saved_register 1) FRAME_KIND → Block w at (saved t) → Block x to (saved t)

-- tasks are copied, and a frame: from the work area to the place behind the last frame, say
abbrev pub TasksCopied : Type 0
TasksCopied = (w x : ℕ → ℕ) (at to : ℕ) (ts : List Task) → TasksHaveRoom ts → Copied w x at to FRAME_KIND FRAME_SIZE → TasksAt w at ts → TasksAt x to ts

abbrev pub FrameCopied : Type 0
FrameCopied = (w x : ℕ → ℕ) (at to : ℕ) (f : Frame) → TasksHaveRoom f.tasks → Copied w x at to (saved_register 1) FRAME_SIZE → FrameAt w at f → FrameAt x to f

-- ---- lists of words, the first one last

-- a number is stored behind the others, and is the first
abbrev pub StackMore : Type 0
StackMore = (w x : ℕ → ℕ) (at e : ℕ) (es : List ℕ) → at % 4 ≡ 0 → Same at (at + 4 * length es) w x → x (at + 4 * length es) ≡ e → Stack w at es → Stack x at (e ∷ es)

-- a list that stands behind another goes before it
abbrev pub StackJoined : Type 0
StackJoined = (w : ℕ → ℕ) (at : ℕ) (xs ys : List ℕ) → Stack w at xs → Stack w (at + 4 * length xs) ys → Stack w at (ys ++ xs)
