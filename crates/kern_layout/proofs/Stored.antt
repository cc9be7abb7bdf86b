-- One store to a field is the state with that field changed.
use Rattle.std.proofs.Common.{◌≡◌, ℕ, suc, ◌+◌, ◌*◌, ◌%◌, ◌<◌, ◌≤◌, List, [], ◌∷◌, length, refl, sym, ap, ◌∙◌, subst, arith, take}
use Rattle.std.specs.Prelude.{Option, slice_set}
use Rattle.psx_base.specs.KernelState.{ThreadContext, Thread, Free, Event, Task, Element, Line, KernelState}
use Rattle.kern_layout.specs.Fields.{Block, Stack}
use Rattle.kern_layout.specs.Stores.{Same, SameBytes, put, with_field, with_thread, with_event, with_frame, with_chain}
use Rattle.kern_layout.specs.Contexts.{saved, thread_fields}
use Rattle.kern_layout.specs.Tasks.{elements_of, lines_of, under_way_fields, TasksAt}
use Rattle.kern_layout.specs.Reads.{Reads, thread, event, frame, chain, event_fields, file_fields, no_frame, thread_at, event_at, frame_at, file_at, chain_at, ChainAt, variables}
use Rattle.kern_layout.specs.Valid.{Valid}
use Rattle.kern_layout.proofs.Blocks.{block_put, put_kept, put_here, put_other, stack_same, block_same}
use Rattle.kern_layout.proofs.ReadingsKept as kept
use Rattle.kern_layout.proofs.Written as written
use Rattle.kern_layout.proofs.Moved as moved

-- a store elsewhere leaves a range
pub put_below : (w : ℕ → ℕ) (at v low high : ℕ) → high ≤ at → Same low high w (put w at v)
put_below w at v low high le a al lo up = put_other w at v a (λ e. omega arith)

pub put_above : (w : ℕ → ℕ) (at v low high : ℕ) → at < low → Same low high w (put w at v)
put_above w at v low high le a al lo up = put_other w at v a (λ e. omega arith)

-- ---- threads, events, files, variables

pub thread_stored : (s : KernelState) → Valid s → (w b c : ℕ → ℕ) → SameBytes 0xE900 0xEA00 b c → (n o v : ℕ) (t : Thread) → n < length s.threads → o < 0xC0 → with_field (thread_fields s.current n (thread s n)) o v ≡ thread_fields s.current n t → Reads s w b → Reads (with_thread s n t) (put w (thread_at n + o) v) c
thread_stored s valid w b c line n o v t lt up is old =
    written.reads_thread s valid w (put w (thread_at n + o) v) b c line n t lt
    (put_kept w (thread_at n + o) v (thread_at n) (thread_at n + 0xC0) (omega arith) (omega arith))
    (subst (λ f. Block (put w (thread_at n + o) v) (thread_at n) f) is (block_put w (thread_at n) o v (thread_fields s.current n (thread s n)) (old.threads n lt))) old

pub thread_freed : (s : KernelState) → Valid s → (w b c : ℕ → ℕ) → SameBytes 0xE900 0xEA00 b c → (n : ℕ) → n < length s.threads → Reads s w b → Reads (with_thread s n Free) (put w (thread_at n) 0x1000) c
thread_freed s valid w b c line n lt old =
    let x = put w (thread_at n) 0x1000 in
    written.reads_thread s valid w x b c line n Free lt
    (put_kept w (thread_at n) 0x1000 (thread_at n) (thread_at n + 0xC0) (omega arith) (omega arith))
    (ap x (let e : thread_at n + 0 ≡ thread_at n = omega arith in e) ∙ put_here w (thread_at n) 0x1000, tt) old

pub event_stored : (s : KernelState) → Valid s → (w b c : ℕ → ℕ) → SameBytes 0xE900 0xEA00 b c → (i o v : ℕ) (e : Event) → i < length s.events → o < 0x1C → with_field (event_fields i (event s i)) o v ≡ event_fields i e → Reads s w b → Reads (with_event s i e) (put w (event_at i + o) v) c
event_stored s valid w b c line i o v e lt up is old =
    written.reads_event s valid w (put w (event_at i + o) v) b c line i e lt
    (put_kept w (event_at i + o) v (event_at i) (event_at i + 0x1C) (omega arith) (omega arith))
    (subst (λ f. Block (put w (event_at i + o) v) (event_at i) f) is (block_put w (event_at i) o v (event_fields i (event s i)) (old.events i lt))) old

pub file_stored : (s : KernelState) → Valid s → (w b c : ℕ → ℕ) → SameBytes 0xE900 0xEA00 b c → (n v : ℕ) (f : Option ℕ) → n < 16 → file_fields n f ≡ (0, v) ∷ [] → Reads s w b → Reads record s { files = slice_set s.files n f } (put w (file_at n) v) c
file_stored s valid w b c line n v f lt is old =
    written.reads_file s valid w (put w (file_at n) v) b c line n f lt
    (put_kept w (file_at n) v (file_at n) (file_at n + 4) (omega arith) (omega arith))
    (subst (λ g. Block (put w (file_at n) v) (file_at n) g) (sym is) (ap (put w (file_at n) v) (let e : file_at n + 0 ≡ file_at n = omega arith in e) ∙ put_here w (file_at n) v, tt)) old

pub variable_stored : (s : KernelState) → Valid s → (w b c : ℕ → ℕ) → SameBytes 0xE900 0xEA00 b c → (o v : ℕ) (next : Option ℕ) (random token errno base : ℕ) → let t = record s { next = next; random = random; token = token; errno = errno; heap = record s.heap { base = base } } in o < 0x28 → with_field (variables s) o v ≡ variables t → Reads s w b → Reads t (put w (0xEA00 + o) v) c
variable_stored s valid w b c line o v next random token errno base up is old =
    written.reads_variables s valid w (put w (0xEA00 + o) v) b c line next random token errno base
    (put_kept w (0xEA00 + o) v 0xEA00 0xEA28 (omega arith) (omega arith))
    (subst (λ f. Block (put w (0xEA00 + o) v) 0xEA00 f) is (block_put w 0xEA00 o v (variables s) old.variables)) old

-- ---- tasks, in a frame or the work area

-- the task under way is another
pub way_stored : (w : ℕ → ℕ) (at o v : ℕ) (ts us : List Task) → at % 4 ≡ 0 → length (elements_of ts) ≤ 32 → length (lines_of ts) ≤ 4 → 0x98 ≤ o → o < 0xA8 → with_field (under_way_fields ts) o v ≡ under_way_fields us → elements_of us ≡ elements_of ts → lines_of us ≡ lines_of ts → TasksAt w at ts → TasksAt (put w (at + o) v) at us
way_stored w at o v ts us al few four lo up is elements lines h =
    let x = put w (at + o) v in
    record {
      first = subst (λ f. Block x at f) is (block_put w at o v (under_way_fields ts) h.first);
      counts = ((put_other w (at + o) v (at + 0xA8) (λ e. omega arith)) ∙ h.counts.0 ∙ sym (ap length elements), ((put_other w (at + o) v (at + 0xAC) (λ e. omega arith)) ∙ h.counts.1.0 ∙ sym (ap length lines), tt));
      lines = subst (λ l. Stack x (at + 0xB0) l) (sym lines) (stack_same w x (at + 0xB0) (at + 0xC0) (lines_of ts) (omega arith) (omega arith) (put_above w (at + o) v (at + 0xB0) (at + 0xC0) (omega arith)) h.lines);
      elements = subst (λ l. Stack x (at + 0x100) l) (sym elements) (stack_same w x (at + 0x100) (at + 0x180) (elements_of ts) (omega arith) (omega arith) (put_above w (at + o) v (at + 0x100) (at + 0x180) (omega arith)) h.elements);
    }

-- the task under way is done
pub way_done : (w : ℕ → ℕ) (at : ℕ) (ts us : List Task) → at % 4 ≡ 0 → length (elements_of ts) ≤ 32 → length (lines_of ts) ≤ 4 → under_way_fields us ≡ (0x98, 0) ∷ [] → elements_of us ≡ elements_of ts → lines_of us ≡ lines_of ts → TasksAt w at ts → TasksAt (put w (at + 0x98) 0) at us
way_done w at ts us al few four none elements lines h =
    let x = put w (at + 0x98) 0 in
    record {
      first = subst (λ f. Block x at f) (sym none) (put_here w (at + 0x98) 0, tt);
      counts = (put_other w (at + 0x98) 0 (at + 0xA8) (λ q. omega arith) ∙ h.counts.0 ∙ sym (ap length elements), (put_other w (at + 0x98) 0 (at + 0xAC) (λ q. omega arith) ∙ h.counts.1.0 ∙ sym (ap length lines), tt));
      lines = subst (λ l. Stack x (at + 0xB0) l) (sym lines) (stack_same w x (at + 0xB0) (at + 0xC0) (lines_of ts) (omega arith) (omega arith) (put_above w (at + 0x98) 0 (at + 0xB0) (at + 0xC0) (omega arith)) h.lines);
      elements = subst (λ l. Stack x (at + 0x100) l) (sym elements) (stack_same w x (at + 0x100) (at + 0x180) (elements_of ts) (omega arith) (omega arith) (put_above w (at + 0x98) 0 (at + 0x100) (at + 0x180) (omega arith)) h.elements);
    }

-- the first element is taken: one less is counted
pub element_taken : (w : ℕ → ℕ) (at e : ℕ) (ts : List Task) → at % 4 ≡ 0 → length (elements_of ts) ≤ 32 → length (lines_of ts) ≤ 4 → under_way_fields ts ≡ (0x98, 0) ∷ [] → TasksAt w at (Element e ∷ ts) → TasksAt (put w (at + 0xA8) (length (elements_of ts))) at ts
element_taken w at e ts al few four none h =
    let n = length (elements_of ts) in
    let x = put w (at + 0xA8) n in
    record {
      first = subst (λ f. Block x at f) (sym none) (put_other w (at + 0xA8) n (at + 0x98) (λ q. omega arith) ∙ h.first.0, tt);
      counts = (put_here w (at + 0xA8) n, (put_other w (at + 0xA8) n (at + 0xAC) (λ q. omega arith) ∙ h.counts.1.0, tt));
      lines = stack_same w x (at + 0xB0) (at + 0xC0) (lines_of ts) (omega arith) (omega arith) (put_above w (at + 0xA8) n (at + 0xB0) (at + 0xC0) (omega arith)) h.lines;
      elements = stack_same w x (at + 0x100) (at + 0x180) (elements_of ts) (omega arith) (omega arith) (put_above w (at + 0xA8) n (at + 0x100) (at + 0x180) (omega arith)) h.elements.1;
    }

-- the first line is taken
pub line_taken : (w : ℕ → ℕ) (at n : ℕ) (ts : List Task) → at % 4 ≡ 0 → length (elements_of ts) ≤ 32 → length (lines_of ts) ≤ 4 → under_way_fields ts ≡ (0x98, 0) ∷ [] → TasksAt w at (Line n ∷ ts) → TasksAt (put w (at + 0xAC) (length (lines_of ts))) at ts
line_taken w at n ts al few four none h =
    let k = length (lines_of ts) in
    let x = put w (at + 0xAC) k in
    record {
      first = subst (λ f. Block x at f) (sym none) (put_other w (at + 0xAC) k (at + 0x98) (λ q. omega arith) ∙ h.first.0, tt);
      counts = (put_other w (at + 0xAC) k (at + 0xA8) (λ q. omega arith) ∙ h.counts.0, (put_here w (at + 0xAC) k, tt));
      lines = stack_same w x (at + 0xB0) (at + 0xC0) (lines_of ts) (omega arith) (omega arith) (put_above w (at + 0xAC) k (at + 0xB0) (at + 0xC0) (omega arith)) h.lines.1;
      elements = stack_same w x (at + 0x100) (at + 0x180) (elements_of ts) (omega arith) (omega arith) (put_above w (at + 0xAC) k (at + 0x100) (at + 0x180) (omega arith)) h.elements;
    }

-- ---- frames

-- a field of a frame's saved context
pub context_stored : (s : KernelState) → Valid s → (w b c : ℕ → ℕ) → SameBytes 0xE900 0xEA00 b c → (n o v : ℕ) (t : ThreadContext) → n < length s.frames → o < 0x98 → with_field (saved (frame s n).context) o v ≡ saved t → Reads s w b → Reads (with_frame s n record (frame s n) { context = t }) (put w (frame_at n + o) v) c
context_stored s valid w b c line n o v t lt up is old =
    let x = put w (frame_at n + o) v in
    let f = frame s n in
    let fit = valid.frames n no_frame lt in
    written.reads_frame s valid w x b c line n record f { context = t } lt
    (put_kept w (frame_at n + o) v (frame_at n) (frame_at n + 0x180) (omega arith) (omega arith))
    record {
      context = subst (λ g. Block x (frame_at n) g) is (block_put w (frame_at n) o v (saved f.context) (old.frames n lt).context);
      tasks = kept.tasks_kept w x (frame_at n) f.tasks (omega arith) fit.tasks.elements fit.tasks.lines (put_above w (frame_at n + o) v (frame_at n + 0x98) (frame_at n + 0x180) (omega arith)) (old.frames n lt).tasks;
    } old

-- a field of a frame's task under way
pub frame_way_stored : (s : KernelState) → Valid s → (w b c : ℕ → ℕ) → SameBytes 0xE900 0xEA00 b c → (n o v : ℕ) (us : List Task) → n < length s.frames → 0x98 ≤ o → o < 0xA8 → with_field (under_way_fields (frame s n).tasks) o v ≡ under_way_fields us → elements_of us ≡ elements_of (frame s n).tasks → lines_of us ≡ lines_of (frame s n).tasks → Reads s w b → Reads (with_frame s n record (frame s n) { tasks = us }) (put w (frame_at n + o) v) c
frame_way_stored s valid w b c line n o v us lt lo up is elements lines old =
    let x = put w (frame_at n + o) v in
    let f = frame s n in
    let fit = valid.frames n no_frame lt in
    written.reads_frame s valid w x b c line n record f { tasks = us } lt
    (put_kept w (frame_at n + o) v (frame_at n) (frame_at n + 0x180) (omega arith) (omega arith))
    record {
      context = block_same w x (frame_at n) 0 0x98 (saved f.context) (omega arith) refl (put_below w (frame_at n + o) v (frame_at n + 0) (frame_at n + 0x98) (omega arith)) (old.frames n lt).context;
      tasks = way_stored w (frame_at n) o v f.tasks us (omega arith) fit.tasks.elements fit.tasks.lines lo up is elements lines (old.frames n lt).tasks;
    } old

-- the frames from the n-th on are counted no more
pub frames_dropped : (s : KernelState) → Valid s → (w b c : ℕ → ℕ) → SameBytes 0xE900 0xEA00 b c → (n : ℕ) → n ≤ length s.frames → Reads s w b → Reads record s { frames = take n s.frames } (put w 0xEA08 n) c
frames_dropped s valid w b c line n le old =
    moved.reads_popped s valid w (put w 0xEA08 n) b c line n le
    (put_below w 0xEA08 n 0xB000 (frame_at n) (omega (arith, le, valid.frames_most)))
    (put_below w 0xEA08 n 0xCF00 0xE900 (omega arith))
    (put_below w 0xEA08 n 0xEA00 0xEA08 (omega arith))
    (put_above w 0xEA08 n 0xEA0C 0xEB00 (omega arith))
    (put_here w 0xEA08 n) old

-- ---- chains

-- an element at the head: its word, and the count
pub chain_linked : (s : KernelState) → Valid s → (w b c : ℕ → ℕ) → SameBytes 0xE900 0xEA00 b c → (p e : ℕ) → p < 4 → let n = length (chain s p) in n < 8 → Reads s w b → Reads (with_chain s p (e ∷ chain s p)) (put (put w (chain_at p + 4 + 4 * n) e) (chain_at p) (suc n)) c
chain_linked s valid w b c line p e lt few old =
    let n = length (chain s p) in
    let y = put w (chain_at p + 4 + 4 * n) e in
    let x = put y (chain_at p) (suc n) in
    written.reads_chain s valid w x b c line p (e ∷ chain s p) lt
    (λ a al o. put_kept y (chain_at p) (suc n) (chain_at p) (chain_at p + 0x40) (omega arith) (omega arith) a al o ∙ put_kept w (chain_at p + 4 + 4 * n) e (chain_at p) (chain_at p + 0x40) (omega arith) (omega (arith, few)) a al o)
    (moved.chain_more w x (chain_at p) e (chain s p) (omega arith)
    (λ a al lo up. put_other y (chain_at p) (suc n) a (λ q. omega arith) ∙ put_other w (chain_at p + 4 + 4 * n) e a (λ q. omega arith))
    (put_other y (chain_at p) (suc n) (chain_at p + 4 + 4 * n) (λ q. omega arith) ∙ put_here w (chain_at p + 4 + 4 * n) e)
    (put_here y (chain_at p) (suc n))
    (old.chains p (omega (arith, lt, valid.chains_count)))) old

-- the head is taken out: one less is counted
pub chain_unlinked : (s : KernelState) → Valid s → (w b c : ℕ → ℕ) → SameBytes 0xE900 0xEA00 b c → (p e : ℕ) (es : List ℕ) → p < 4 → chain s p ≡ e ∷ es → Reads s w b → Reads (with_chain s p es) (put w (chain_at p) (length es)) c
chain_unlinked s valid w b c line p e es lt is old =
    let x = put w (chain_at p) (length es) in
    written.reads_chain s valid w x b c line p es lt
    (put_kept w (chain_at p) (length es) (chain_at p) (chain_at p + 0x40) (omega arith) (omega arith))
    (moved.chain_less w x (chain_at p) e es (omega arith) (put_above w (chain_at p) (length es) (chain_at p + 4) (chain_at p + 4 + 4 * length es) (omega arith)) (put_here w (chain_at p) (length es))
    (subst (λ l. ChainAt w (chain_at p) l) is (old.chains p (omega (arith, lt, valid.chains_count))))) old
