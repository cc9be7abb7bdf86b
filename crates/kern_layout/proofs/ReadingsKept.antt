-- Each reading depends on its own range alone.
use Rattle.std.proofs.Common.{◌≡◌, ℕ, zero, suc, ◌+◌, ◌-◌, ◌*◌, ◌%◌, ◌≤◌, Bool, true, false, cond, List, [], ◌∷◌, length, refl, sym, ◌∙◌, subst, arith}
use Rattle.std.specs.Prelude.{nat_eq, Option, Some, None, slice_index_or, All}
use Rattle.psx_base.specs.KernelState.{Thread, Free, Used, Event, Task, Element, Second, Line, Scan, Frame, Heap, KernelState}
use Rattle.kern_layout.specs.Fields.{Fields, Block, Rows}
use Rattle.kern_layout.specs.Stores.{Same, SameBytes}
use Rattle.kern_layout.specs.Contexts.{saved, thread_fields}
use Rattle.kern_layout.specs.Tasks.{under_way_fields, count_fields, elements_of, lines_of, TasksAt, FrameAt}
use Rattle.kern_layout.specs.HeapTable.{IsEntry, entry_fields, Linked, Spare, HeapAt}
use Rattle.kern_layout.specs.Reads.{event_fields, no_event, file_fields, no_frame, FramesAt, frame_at, ChainAt, ChainsAt, chain_at, LineAt, variables}
use Rattle.kern_layout.specs.Valid.{FrameFits, ChainFits}
use Rattle.kern_layout.proofs.Blocks.{inside, block_same, stack_same, rows_same}

-- ---- threads, events, files

either : (b : Bool) (f : Fields) (low high : ℕ) → inside low high f ≡ true → inside low high (cond b [] f) ≡ true
either true f low high h = refl
either false f low high h = h

pub fit_thread : (current n : ℕ) (t : Thread) → inside 0 0xC0 (thread_fields current n t) ≡ true
fit_thread current n Free = refl
fit_thread current n (Used t) = either (nat_eq n current) (saved t) 0 0xC0 refl

pub thread_aligned : (n : ℕ) → (0xB000 + 0xC0 * n) % 4 ≡ 0
thread_aligned n = omega arith

pub fit_event : (i : ℕ) (e : Event) → inside 0 0x1C (event_fields i e) ≡ true
fit_event i e = refl

pub event_aligned : (i : ℕ) → (0xBC00 + 0x1C * i) % 4 ≡ 0
event_aligned i = omega arith

pub fit_file : (n : ℕ) (f : Option ℕ) → inside 0 4 (file_fields n f) ≡ true
fit_file n None = refl
fit_file n (Some mode) = refl

pub file_aligned : (n : ℕ) → (0xE800 + 4 * n) % 4 ≡ 0
file_aligned n = omega arith

pub threads_kept : (current : ℕ) (ts : List Thread) → length ts ≤ 16 → (w x : ℕ → ℕ) → Same 0xB000 0xBC00 w x → Rows w 0xB000 0xC0 (thread_fields current) ts Free → Rows x 0xB000 0xC0 (thread_fields current) ts Free
threads_kept current ts few w x s old = rows_same 0xB000 0xC0 (thread_fields current) Free thread_aligned (fit_thread current) w x ts 0xBC00 (omega arith) s old

pub events_kept : (es : List Event) → length es ≤ 64 → (w x : ℕ → ℕ) → Same 0xBC00 0xC300 w x → Rows w 0xBC00 0x1C event_fields es no_event → Rows x 0xBC00 0x1C event_fields es no_event
events_kept es few w x s old = rows_same 0xBC00 0x1C event_fields no_event event_aligned fit_event w x es 0xC300 (omega arith) s old

pub files_kept : (fs : List (Option ℕ)) → length fs ≡ 16 → (w x : ℕ → ℕ) → Same 0xE800 0xE900 w x → Rows w 0xE800 4 file_fields fs None → Rows x 0xE800 4 file_fields fs None
files_kept fs few w x s old = rows_same 0xE800 4 file_fields None file_aligned fit_file w x fs 0xE900 (omega arith) s old

-- ---- frames

pub fit_under_way : (ts : List Task) → inside 0x98 0xA8 (under_way_fields ts) ≡ true
fit_under_way [] = refl
fit_under_way (Element e ∷ ts) = refl
fit_under_way (Second e ∷ ts) = refl
fit_under_way (Line n ∷ ts) = refl
fit_under_way (Scan class spec i ∷ ts) = refl

pub tasks_kept : (w x : ℕ → ℕ) (at : ℕ) (ts : List Task) → at % 4 ≡ 0 → length (elements_of ts) ≤ 32 → length (lines_of ts) ≤ 4 → Same (at + 0x98) (at + 0x180) w x → TasksAt w at ts → TasksAt x at ts
tasks_kept w x at ts al elements lines s h = record {
  first = block_same w x at 0x98 0xA8 (under_way_fields ts) al (fit_under_way ts) (λ a m low up. s a m low (omega (arith, up))) h.first;
  counts = block_same w x at 0xA8 0xB0 (count_fields ts) al refl (λ a m low up. s a m (omega (arith, low)) (omega (arith, up))) h.counts;
  lines = stack_same w x (at + 0xB0) (at + 0xC0) (lines_of ts) (omega (arith, al)) (omega (arith, lines)) (λ a m low up. s a m (omega (arith, low)) (omega (arith, up))) h.lines;
  elements = stack_same w x (at + 0x100) (at + 0x180) (elements_of ts) (omega (arith, al)) (omega (arith, elements)) (λ a m low up. s a m (omega (arith, low)) up) h.elements;
}

pub frame_kept : (w x : ℕ → ℕ) (at : ℕ) (f : Frame) → at % 4 ≡ 0 → length (elements_of f.tasks) ≤ 32 → length (lines_of f.tasks) ≤ 4 → Same at (at + 0x180) w x → FrameAt w at f → FrameAt x at f
frame_kept w x at f al elements lines s h = record {
  context = block_same w x at 0 0x98 (saved f.context) al refl (λ a m low up. s a m (omega (arith, low)) (omega (arith, up))) h.context;
  tasks = tasks_kept w x at f.tasks al elements lines (λ a m low up. s a m (omega (arith, low)) up) h.tasks;
}

-- only the frames that are there are looked at
pub frames_kept : (events : ℕ) (fs : List Frame) → All (FrameFits events) fs → (w x : ℕ → ℕ) → Same 0xC300 (frame_at (length fs)) w x → FramesAt w fs → FramesAt x fs
frames_kept events fs fit w x s old n lt =
    let ok = fit n no_frame lt in
    frame_kept w x (frame_at n) (slice_index_or fs n no_frame) (omega arith) ok.tasks.elements ok.tasks.lines (λ a m low up. s a m (omega (arith, low)) (omega (arith, up, lt))) (old n lt)

-- ---- chains

pub chain_kept : (w x : ℕ → ℕ) (at : ℕ) (es : List ℕ) → at % 4 ≡ 0 → length es ≤ 8 → Same at (at + 0x40) w x → ChainAt w at es → ChainAt x at es
chain_kept w x at es al few s h = record {
  count = s at al (omega arith) (omega arith) ∙ h.count;
  elements = stack_same w x (at + 4) (at + 0x40) es (omega (arith, al)) (omega (arith, few)) (λ a m low up. s a m (omega (arith, low)) up) h.elements;
}

pub chains_kept : (cs : List (List ℕ)) → length cs ≡ 4 → All ChainFits cs → (w x : ℕ → ℕ) → Same 0xCF00 0xD000 w x → ChainsAt w cs → ChainsAt x cs
chains_kept cs four fit w x s old p lt =
    chain_kept w x (chain_at p) (slice_index_or cs p []) (omega arith) (fit p [] lt).few (λ a m low up. s a m (omega (arith, low)) (omega (arith, up, lt, four))) (old p lt)

-- ---- the heap

pub entry_place : (e : ℕ) → IsEntry e → (0xD000 ≤ e) × (e + 12 ≤ 0xE800) × (e % 4 ≡ 0)
entry_place e h = (omega (arith, h.1, h.2), omega (arith, h.1, h.2), omega (arith, h.1, h.2))

-- what is linked from a word, as long as this word and the table stay
pub linked_kept : (w x : ℕ → ℕ) (cell : ℕ) (bs : List (ℕ × Bool)) → x cell ≡ w cell → Same 0xD000 0xE800 w x → Linked w cell bs → Linked x cell bs
linked_kept w x cell [] same s h = same ∙ h
linked_kept w x cell (b ∷ bs) same s h =
    let at = entry_place (w cell) h.0 in
    let z : x cell ≡ w cell = same in
    subst (λ c. IsEntry c × Block x c (entry_fields b) × Linked x c bs) (sym same)
    (h.0, block_same w x (w cell) 0 12 (entry_fields b) at.2 refl (λ a m low up. s a m (omega (arith, low, at.0)) (omega (arith, up, at.1))) h.1, linked_kept w x (w cell) bs (s (w cell) at.2 at.0 (omega (arith, at.1))) s h.2)

pub spare_kept : (w x : ℕ → ℕ) (cell n : ℕ) → x cell ≡ w cell → Same 0xD000 0xE800 w x → Spare w cell n → Spare x cell n
spare_kept w x cell zero same s h = same ∙ h
spare_kept w x cell (suc n) same s h =
    let at = entry_place (w cell) h.0 in
    subst (λ c. IsEntry c × (x (c + 4) ≡ 0) × Spare x c n) (sym same)
    (h.0, s (w cell + 4) (omega (arith, at.2)) (omega (arith, at.0)) (omega (arith, at.1)) ∙ h.1, spare_kept w x (w cell) n (s (w cell) at.2 at.0 (omega (arith, at.1))) s h.2)

pub heap_kept : (h : Heap) (w x : ℕ → ℕ) → Same 0xD000 0xE800 w x → Same 0xEA40 0xEA48 w x → HeapAt w h → HeapAt x h
heap_kept h w x s v old = record {
  blocks = linked_kept w x 0xEA40 h.blocks (v 0xEA40 refl (omega arith) (omega arith)) s old.blocks;
  spare = spare_kept w x 0xEA44 (512 - length h.blocks) (v 0xEA44 refl (omega arith) (omega arith)) s old.spare;
}

-- ---- the line and the variables

pub line_kept : (line : List ℕ) → length line ≤ 254 → (b c : ℕ → ℕ) → SameBytes 0xE900 0xEA00 b c → LineAt b line → LineAt c line
line_kept line few b c s old k lt = s (0xE900 + k) (omega arith) (omega (arith, lt, few)) ∙ old k lt

pub variables_kept : (s : KernelState) (w x : ℕ → ℕ) → Same 0xEA00 0xEA28 w x → Block w 0xEA00 (variables s) → Block x 0xEA00 (variables s)
variables_kept s w x same old = block_same w x 0xEA00 0 0x28 (variables s) refl refl same old
