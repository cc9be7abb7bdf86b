-- What a store in a table makes of the state.
use Rattle.std.proofs.Common.{◌≡◌, ℕ, ◌+◌, ◌<◌, ◌≤◌, Bool, List, [], ◌∷◌, length, sym, subst, arith, inl, inr, ⊎_elim, get_or-set_same, get_or-set_other}
use Rattle.std.specs.Prelude.{Option, None, slice_index_or, slice_set}
use Rattle.std.proofs.lemmas.List.{length-set}
use Rattle.std.proofs.lemmas.Bool.{cases_lt, cases_eq}
use Rattle.psx_base.specs.KernelState.{Thread, Free, Event, Frame, KernelState}
use Rattle.kern_layout.specs.Fields.{Fields, Block}
use Rattle.kern_layout.specs.Stores.{Same, SameOutside, SameBytes, with_thread, with_event, with_frame, with_chain}
use Rattle.kern_layout.specs.Contexts.{thread_fields}
use Rattle.kern_layout.specs.Tasks.{FrameAt}
use Rattle.kern_layout.specs.HeapTable.{HeapAt}
use Rattle.kern_layout.specs.Reads.{Reads, event_fields, no_event, file_fields, no_frame, frame_at, thread_at, event_at, file_at, ChainAt, chain_at, variables, next_word}
use Rattle.kern_layout.specs.Valid.{Valid}
use Rattle.kern_layout.proofs.Blocks.{rows_set}
use Rattle.kern_layout.proofs.ReadingsKept as kept

-- what lies below or above a range that alone is written
pub below : (low high from to : ℕ) (w x : ℕ → ℕ) → to ≤ low → SameOutside low high w x → Same from to w x
below low high from to w x le k = λ a m lo up. k a m (inl (omega arith))

pub above : (low high from to : ℕ) (w x : ℕ → ℕ) → high ≤ from → SameOutside low high w x → Same from to w x
above low high from to w x le k = λ a m lo up. k a m (inr (omega arith))

-- the variables' fields
abbrev pub variable_fields : (current next frames threads events random token errno line base : ℕ) → Fields
variable_fields current next frames threads events random token errno line base = (0, current) ∷ (4, next) ∷ (8, frames) ∷ (0xC, threads) ∷ (0x10, events) ∷ (0x14, random) ∷ (0x18, token) ∷ (0x1C, errno) ∷ (0x20, line) ∷ (0x24, base) ∷ []

-- a thread's block is written
pub reads_thread : (s : KernelState) → Valid s → (w x b c : ℕ → ℕ) → SameBytes 0xE900 0xEA00 b c → (n : ℕ) (t : Thread) → n < length s.threads → SameOutside (thread_at n) (thread_at n + 0xC0) w x → Block x (thread_at n) (thread_fields s.current n t) → Reads s w b → Reads (with_thread s n t) x c
reads_thread s v w x b c line n t lt out new old = record {
  threads = rows_set 0xB000 0xC0 (thread_fields s.current) Free kept.thread_aligned (kept.fit_thread s.current) w x s.threads n t lt out new old.threads;
  events = kept.events_kept s.events v.events_most w x (above (thread_at n) (thread_at n + 0xC0) 0xBC00 0xC300 w x (omega (arith, lt, v.threads_most)) out) old.events;
  frames = kept.frames_kept (length s.events) s.frames v.frames w x (above (thread_at n) (thread_at n + 0xC0) 0xC300 (frame_at (length s.frames)) w x (omega (arith, lt, v.threads_most, v.frames_most)) out) old.frames;
  chains = kept.chains_kept s.chains v.chains_count v.chains w x (above (thread_at n) (thread_at n + 0xC0) 0xCF00 0xD000 w x (omega (arith, lt, v.threads_most)) out) old.chains;
  heap = kept.heap_kept s.heap w x (above (thread_at n) (thread_at n + 0xC0) 0xD000 0xE800 w x (omega (arith, lt, v.threads_most)) out) (above (thread_at n) (thread_at n + 0xC0) 0xEA40 0xEA48 w x (omega (arith, lt, v.threads_most)) out) old.heap;
  files = kept.files_kept s.files v.files_count w x (above (thread_at n) (thread_at n + 0xC0) 0xE800 0xE900 w x (omega (arith, lt, v.threads_most)) out) old.files;
  line = kept.line_kept s.line v.line b c line old.line;
  variables = subst (λ n. Block x 0xEA00 (variable_fields s.current (next_word s.next) (length s.frames) n (length s.events) s.random s.token s.errno (length s.line) s.heap.base)) (sym (length-set s.threads n t)) (kept.variables_kept s w x (above (thread_at n) (thread_at n + 0xC0) 0xEA00 0xEA28 w x (omega (arith, lt, v.threads_most)) out) old.variables);
}

-- an event's block is written
pub reads_event : (s : KernelState) → Valid s → (w x b c : ℕ → ℕ) → SameBytes 0xE900 0xEA00 b c → (i : ℕ) (e : Event) → i < length s.events → SameOutside (event_at i) (event_at i + 0x1C) w x → Block x (event_at i) (event_fields i e) → Reads s w b → Reads (with_event s i e) x c
reads_event s v w x b c line i e lt out new old = record {
  threads = kept.threads_kept s.current s.threads v.threads_most w x (below (event_at i) (event_at i + 0x1C) 0xB000 0xBC00 w x (omega (arith, lt, v.events_most)) out) old.threads;
  events = rows_set 0xBC00 0x1C event_fields no_event kept.event_aligned kept.fit_event w x s.events i e lt out new old.events;
  frames = kept.frames_kept (length s.events) s.frames v.frames w x (above (event_at i) (event_at i + 0x1C) 0xC300 (frame_at (length s.frames)) w x (omega (arith, lt, v.events_most, v.frames_most)) out) old.frames;
  chains = kept.chains_kept s.chains v.chains_count v.chains w x (above (event_at i) (event_at i + 0x1C) 0xCF00 0xD000 w x (omega (arith, lt, v.events_most)) out) old.chains;
  heap = kept.heap_kept s.heap w x (above (event_at i) (event_at i + 0x1C) 0xD000 0xE800 w x (omega (arith, lt, v.events_most)) out) (above (event_at i) (event_at i + 0x1C) 0xEA40 0xEA48 w x (omega (arith, lt, v.events_most)) out) old.heap;
  files = kept.files_kept s.files v.files_count w x (above (event_at i) (event_at i + 0x1C) 0xE800 0xE900 w x (omega (arith, lt, v.events_most)) out) old.files;
  line = kept.line_kept s.line v.line b c line old.line;
  variables = subst (λ n. Block x 0xEA00 (variable_fields s.current (next_word s.next) (length s.frames) (length s.threads) n s.random s.token s.errno (length s.line) s.heap.base)) (sym (length-set s.events i e)) (kept.variables_kept s w x (above (event_at i) (event_at i + 0x1C) 0xEA00 0xEA28 w x (omega (arith, lt, v.events_most)) out) old.variables);
}

-- a file's word is written
pub reads_file : (s : KernelState) → Valid s → (w x b c : ℕ → ℕ) → SameBytes 0xE900 0xEA00 b c → (n : ℕ) (f : Option ℕ) → n < 16 → SameOutside (file_at n) (file_at n + 4) w x → Block x (file_at n) (file_fields n f) → Reads s w b → Reads record s { files = slice_set s.files n f } x c
reads_file s v w x b c line n f lt out new old = record {
  threads = kept.threads_kept s.current s.threads v.threads_most w x (below (file_at n) (file_at n + 4) 0xB000 0xBC00 w x (omega (arith, lt)) out) old.threads;
  events = kept.events_kept s.events v.events_most w x (below (file_at n) (file_at n + 4) 0xBC00 0xC300 w x (omega (arith, lt)) out) old.events;
  frames = kept.frames_kept (length s.events) s.frames v.frames w x (below (file_at n) (file_at n + 4) 0xC300 (frame_at (length s.frames)) w x (omega (arith, lt, v.frames_most)) out) old.frames;
  chains = kept.chains_kept s.chains v.chains_count v.chains w x (below (file_at n) (file_at n + 4) 0xCF00 0xD000 w x (omega (arith, lt)) out) old.chains;
  heap = kept.heap_kept s.heap w x (below (file_at n) (file_at n + 4) 0xD000 0xE800 w x (omega (arith, lt)) out) (above (file_at n) (file_at n + 4) 0xEA40 0xEA48 w x (omega (arith, lt)) out) old.heap;
  files = rows_set 0xE800 4 file_fields None kept.file_aligned kept.fit_file w x s.files n f (omega (arith, lt, v.files_count)) out new old.files;
  line = kept.line_kept s.line v.line b c line old.line;
  variables = kept.variables_kept s w x (above (file_at n) (file_at n + 4) 0xEA00 0xEA28 w x (omega (arith, lt)) out) old.variables;
}

-- an element of a list is another
get_set : {X : Type 0} (P : ℕ → X → Type 0) (none : X) (xs : List X) (i : ℕ) (y : X) → i < length xs → P i y → ((j : ℕ) → (j ≡ i → ⊥) → j < length xs → P j (slice_index_or xs j none)) → (j : ℕ) → j < length (slice_set xs i y) → P j (slice_index_or (slice_set xs i y) j none)
get_set P none xs i y lt new old j h =
    ⊎_elim
    (λ e. subst (λ k. P k (slice_index_or (slice_set xs i y) k none)) (sym e) (subst (P i) (sym (get_or-set_same xs i y none lt)) new))
    (λ ne. subst (P j) (sym (get_or-set_other xs i j y none ne)) (old j ne (omega (arith, h, length-set xs i y))))
    (cases_eq j i)

-- a frame is written
pub reads_frame : (s : KernelState) → Valid s → (w x b c : ℕ → ℕ) → SameBytes 0xE900 0xEA00 b c → (n : ℕ) (f : Frame) → n < length s.frames → SameOutside (frame_at n) (frame_at n + 0x180) w x → FrameAt x (frame_at n) f → Reads s w b → Reads (with_frame s n f) x c
reads_frame s v w x b c line n f lt out new old = record {
  threads = kept.threads_kept s.current s.threads v.threads_most w x (below (frame_at n) (frame_at n + 0x180) 0xB000 0xBC00 w x (omega (arith, lt, v.frames_most)) out) old.threads;
  events = kept.events_kept s.events v.events_most w x (below (frame_at n) (frame_at n + 0x180) 0xBC00 0xC300 w x (omega (arith, lt, v.frames_most)) out) old.events;
  frames = get_set (λ k g. FrameAt x (frame_at k) g) no_frame s.frames n f lt new (λ j ne h. kept.frame_kept w x (frame_at j) (slice_index_or s.frames j no_frame) (omega arith) (v.frames j no_frame h).tasks.elements (v.frames j no_frame h).tasks.lines (λ a m lo up. out a m (⊎_elim (λ l. inl (omega (arith, l, up))) (λ g. inr (omega (arith, g, ne, lo))) (cases_lt j n))) (old.frames j h));
  chains = kept.chains_kept s.chains v.chains_count v.chains w x (above (frame_at n) (frame_at n + 0x180) 0xCF00 0xD000 w x (omega (arith, lt, v.frames_most)) out) old.chains;
  heap = kept.heap_kept s.heap w x (above (frame_at n) (frame_at n + 0x180) 0xD000 0xE800 w x (omega (arith, lt, v.frames_most)) out) (above (frame_at n) (frame_at n + 0x180) 0xEA40 0xEA48 w x (omega (arith, lt, v.frames_most)) out) old.heap;
  files = kept.files_kept s.files v.files_count w x (above (frame_at n) (frame_at n + 0x180) 0xE800 0xE900 w x (omega (arith, lt, v.frames_most)) out) old.files;
  line = kept.line_kept s.line v.line b c line old.line;
  variables = subst (λ n. Block x 0xEA00 (variable_fields s.current (next_word s.next) n (length s.threads) (length s.events) s.random s.token s.errno (length s.line) s.heap.base)) (sym (length-set s.frames n f)) (kept.variables_kept s w x (above (frame_at n) (frame_at n + 0x180) 0xEA00 0xEA28 w x (omega (arith, lt, v.frames_most)) out) old.variables);
}

-- a chain is written
pub reads_chain : (s : KernelState) → Valid s → (w x b c : ℕ → ℕ) → SameBytes 0xE900 0xEA00 b c → (p : ℕ) (es : List ℕ) → p < 4 → SameOutside (chain_at p) (chain_at p + 0x40) w x → ChainAt x (chain_at p) es → Reads s w b → Reads (with_chain s p es) x c
reads_chain s v w x b c line p es lt out new old = record {
  threads = kept.threads_kept s.current s.threads v.threads_most w x (below (chain_at p) (chain_at p + 0x40) 0xB000 0xBC00 w x (omega (arith, lt)) out) old.threads;
  events = kept.events_kept s.events v.events_most w x (below (chain_at p) (chain_at p + 0x40) 0xBC00 0xC300 w x (omega (arith, lt)) out) old.events;
  frames = kept.frames_kept (length s.events) s.frames v.frames w x (below (chain_at p) (chain_at p + 0x40) 0xC300 (frame_at (length s.frames)) w x (omega (arith, lt, v.frames_most)) out) old.frames;
  chains = get_set (λ k g. ChainAt x (chain_at k) g) [] s.chains p es (omega (arith, lt, v.chains_count)) new (λ j ne h. kept.chain_kept w x (chain_at j) (slice_index_or s.chains j []) (omega arith) (v.chains j [] h).few (λ a m lo up. out a m (⊎_elim (λ l. inl (omega (arith, l, up))) (λ g. inr (omega (arith, g, ne, lo))) (cases_lt j p))) (old.chains j h));
  heap = kept.heap_kept s.heap w x (above (chain_at p) (chain_at p + 0x40) 0xD000 0xE800 w x (omega (arith, lt)) out) (above (chain_at p) (chain_at p + 0x40) 0xEA40 0xEA48 w x (omega (arith, lt)) out) old.heap;
  files = kept.files_kept s.files v.files_count w x (above (chain_at p) (chain_at p + 0x40) 0xE800 0xE900 w x (omega (arith, lt)) out) old.files;
  line = kept.line_kept s.line v.line b c line old.line;
  variables = kept.variables_kept s w x (above (chain_at p) (chain_at p + 0x40) 0xEA00 0xEA28 w x (omega (arith, lt)) out) old.variables;
}

-- the variables are written, but for the counts of the tables, the running number and the line's length
pub reads_variables : (s : KernelState) → Valid s → (w x b c : ℕ → ℕ) → SameBytes 0xE900 0xEA00 b c → (next : Option ℕ) (random token errno base : ℕ) → let e = record s { next = next; random = random; token = token; errno = errno; heap = record s.heap { base = base } } in SameOutside 0xEA00 0xEA28 w x → Block x 0xEA00 (variables e) → Reads s w b → Reads e x c
reads_variables s v w x b c line next random token errno base out new old = record {
  threads = kept.threads_kept s.current s.threads v.threads_most w x (below 0xEA00 0xEA28 0xB000 0xBC00 w x (omega (arith)) out) old.threads;
  events = kept.events_kept s.events v.events_most w x (below 0xEA00 0xEA28 0xBC00 0xC300 w x (omega (arith)) out) old.events;
  frames = kept.frames_kept (length s.events) s.frames v.frames w x (below 0xEA00 0xEA28 0xC300 (frame_at (length s.frames)) w x (omega (arith, v.frames_most)) out) old.frames;
  chains = kept.chains_kept s.chains v.chains_count v.chains w x (below 0xEA00 0xEA28 0xCF00 0xD000 w x (omega (arith)) out) old.chains;
  heap = let h = kept.heap_kept s.heap w x (below 0xEA00 0xEA28 0xD000 0xE800 w x (omega (arith)) out) (above 0xEA00 0xEA28 0xEA40 0xEA48 w x (omega (arith)) out) old.heap in record { blocks = h.blocks; spare = h.spare };
  files = kept.files_kept s.files v.files_count w x (below 0xEA00 0xEA28 0xE800 0xE900 w x (omega (arith)) out) old.files;
  line = kept.line_kept s.line v.line b c line old.line;
  variables = new;
}

-- the heap's table and its two variables are written
pub reads_heap : (s : KernelState) → Valid s → (w x b c : ℕ → ℕ) → SameBytes 0xE900 0xEA00 b c → (blocks : List (ℕ × Bool)) → Same 0xB000 0xD000 w x → Same 0xE800 0xEA28 w x → HeapAt x record s.heap { blocks = blocks } → Reads s w b → Reads record s { heap = record s.heap { blocks = blocks } } x c
reads_heap s v w x b c line blocks low high new old = record {
  threads = kept.threads_kept s.current s.threads v.threads_most w x (λ a m lo up. low a m lo (omega (arith, up))) old.threads;
  events = kept.events_kept s.events v.events_most w x (λ a m lo up. low a m (omega (arith, lo)) (omega (arith, up))) old.events;
  frames = kept.frames_kept (length s.events) s.frames v.frames w x (λ a m lo up. low a m (omega (arith, lo)) (omega (arith, up, v.frames_most))) old.frames;
  chains = kept.chains_kept s.chains v.chains_count v.chains w x (λ a m lo up. low a m (omega (arith, lo)) up) old.chains;
  heap = new;
  files = kept.files_kept s.files v.files_count w x (λ a m lo up. high a m lo (omega (arith, up))) old.files;
  line = kept.line_kept s.line v.line b c line old.line;
  variables = kept.variables_kept s w x (λ a m lo up. high a m (omega (arith, lo)) up) old.variables;
}

-- what no table looks at is written: behind the last frame, and from the work area on
pub reads_free : (s : KernelState) → Valid s → (w x b c : ℕ → ℕ) → SameBytes 0xE900 0xEA00 b c → Same 0xB000 (frame_at (length s.frames)) w x → Same 0xCF00 0xE900 w x → Same 0xEA00 0xEB00 w x → Reads s w b → Reads s x c
reads_free s v w x b c line low mid high old = record {
  threads = kept.threads_kept s.current s.threads v.threads_most w x (λ a m lo up. low a m lo (omega (arith, up))) old.threads;
  events = kept.events_kept s.events v.events_most w x (λ a m lo up. low a m (omega (arith, lo)) (omega (arith, up))) old.events;
  frames = kept.frames_kept (length s.events) s.frames v.frames w x (λ a m lo up. low a m (omega (arith, lo)) up) old.frames;
  chains = kept.chains_kept s.chains v.chains_count v.chains w x (λ a m lo up. mid a m lo (omega (arith, up))) old.chains;
  heap = kept.heap_kept s.heap w x (λ a m lo up. mid a m (omega (arith, lo)) (omega (arith, up))) (λ a m lo up. high a m (omega (arith, lo)) (omega (arith, up))) old.heap;
  files = kept.files_kept s.files v.files_count w x (λ a m lo up. mid a m (omega (arith, lo)) up) old.files;
  line = kept.line_kept s.line v.line b c line old.line;
  variables = kept.variables_kept s w x (λ a m lo up. high a m lo (omega (arith, up))) old.variables;
}
