-- Frames that are pushed and dropped, elements of chains, the line, and another running thread.
use Rattle.std.proofs.Common.{◌≡◌, ℕ, zero, suc, ◌+◌, ◌*◌, ◌%◌, ◌<◌, ◌≤◌, cond, List, [], ◌∷◌, ◌++◌, length, refl, sym, ap, ◌∙◌, subst, arith, inl, inr, ⊎_elim, take, get_or-set_other, eq-eqb, ne_eqb}
use Rattle.std.specs.Prelude.{◌⊎◌, None, slice_index_or, slice_set}
use Rattle.std.proofs.lemmas.List.{length-append, length-set, length-take-le, get_or-take, get_or-set_same}
use Rattle.std.proofs.lemmas.Bool.{cases_lt, cases_eq}
use Rattle.psx_base.specs.KernelState.{Thread, Free, Used, Frame, KernelState}
use Rattle.kern_layout.specs.Fields.{Block, Stack}
use Rattle.kern_layout.specs.Stores.{Same, SameBytes}
use Rattle.kern_layout.specs.Contexts.{saved, thread_fields}
use Rattle.kern_layout.specs.Tasks.{FrameAt}
use Rattle.kern_layout.specs.Reads.{Reads, thread, no_frame, frame_at, thread_at, ChainAt, LineAt, variables, next_word}
use Rattle.kern_layout.specs.Valid.{Valid}
use Rattle.kern_layout.proofs.Blocks.{block_same, stack_same}
use Rattle.kern_layout.proofs.ReadingsKept as kept

-- ---- lists with one element more

pub longer : {X : Type 0} (xs : List X) (y : X) → length (xs ++ y ∷ []) ≡ suc (length xs)
longer [] y = refl
longer (x ∷ xs) y = ap suc (longer xs y)

pub front : {X : Type 0} (none : X) (xs : List X) (y : X) (n : ℕ) → n < length xs → slice_index_or (xs ++ y ∷ []) n none ≡ slice_index_or xs n none
front none [] y n lt = absurd (omega arith)
front none (x ∷ xs) y zero lt = refl
front none (x ∷ xs) y (suc n) lt = front none xs y n (omega arith)

pub last : {X : Type 0} (none : X) (xs : List X) (y : X) → slice_index_or (xs ++ y ∷ []) (length xs) none ≡ y
last none [] y = refl
last none (x ∷ xs) y = last none xs y

all_pushed : {X : Type 0} (P : ℕ → X → Type 0) (none : X) (xs : List X) (y : X) → ((n : ℕ) → n < length xs → P n (slice_index_or xs n none)) → P (length xs) y → (n : ℕ) → n < length (xs ++ y ∷ []) → P n (slice_index_or (xs ++ y ∷ []) n none)
all_pushed P none xs y old new n lt =
    ⊎_elim
    (λ l. subst (P n) (sym (front none xs y n l)) (old n l))
    (λ g. let e : n ≡ length xs = omega (arith, lt, g, longer xs y) in subst (λ k. P k (slice_index_or (xs ++ y ∷ []) k none)) (sym e) (subst (P (length xs)) (sym (last none xs y)) new))
    (cases_lt n (length xs))

-- ---- frames

-- the count of frames is another, and the other variables stay
counted : (s : KernelState) (w x : ℕ → ℕ) → Same 0xEA00 0xEA08 w x → Same 0xEA0C 0xEB00 w x → (n k : ℕ) → n ≡ k → x 0xEA08 ≡ n → Block w 0xEA00 (variables s) → Block x 0xEA00 ((0, s.current) ∷ (4, next_word s.next) ∷ (8, k) ∷ (0xC, length s.threads) ∷ (0x10, length s.events) ∷ (0x14, s.random) ∷ (0x18, s.token) ∷ (0x1C, s.errno) ∷ (0x20, length s.line) ∷ (0x24, s.heap.base) ∷ [])
counted s w x first high n k e count old =
    let front = block_same w x 0xEA00 0 8 ((0, s.current) ∷ (4, next_word s.next) ∷ []) refl refl first (old.0, (old.1.0, tt)) in
    let back = block_same w x 0xEA00 0xC 0x100 ((0xC, length s.threads) ∷ (0x10, length s.events) ∷ (0x14, s.random) ∷ (0x18, s.token) ∷ (0x1C, s.errno) ∷ (0x20, length s.line) ∷ (0x24, s.heap.base) ∷ []) refl refl high old.1.1.1 in
    (front.0, (front.1.0, (count ∙ e, back)))

-- a valid state is valid with no thread to take up
pub without_next : (s : KernelState) → Valid s → Valid (record s { next = None })
without_next s v = record {
  threads_least = v.threads_least;
  threads_most = v.threads_most;
  threads = v.threads;
  current = v.current;
  running = v.running;
  next = tt;
  events_least = v.events_least;
  events_most = v.events_most;
  statuses = v.statuses;
  frames_most = v.frames_most;
  frames = v.frames;
  chains_count = v.chains_count;
  chains = v.chains;
  heap = v.heap;
  files_count = v.files_count;
  files = v.files;
  line = v.line;
}

-- A frame is written behind the last one, and counted. The thread to take up may be any.
pub reads_pushed : (s : KernelState) → Valid (record s { next = None }) → (w x b c : ℕ → ℕ) → SameBytes 0xE900 0xEA00 b c → (f : Frame) → Same 0xB000 (frame_at (length s.frames)) w x → Same 0xCF00 0xE900 w x → Same 0xEA00 0xEA08 w x → Same 0xEA0C 0xEB00 w x → FrameAt x (frame_at (length s.frames)) f → x 0xEA08 ≡ suc (length s.frames) → Reads s w b → Reads record s { frames = s.frames ++ f ∷ [] } x c
reads_pushed s v w x b c line f low mid first high new count old = record {
  threads = kept.threads_kept s.current s.threads v.threads_most w x (λ a m lo up. low a m lo (omega (arith, up))) old.threads;
  events = kept.events_kept s.events v.events_most w x (λ a m lo up. low a m (omega (arith, lo)) (omega (arith, up))) old.events;
  frames = all_pushed (λ n y. FrameAt x (frame_at n) y) no_frame s.frames f (kept.frames_kept (length s.events) s.frames v.frames w x (λ a m lo up. low a m (omega (arith, lo)) up) old.frames) new;
  chains = kept.chains_kept s.chains v.chains_count v.chains w x (λ a m lo up. mid a m lo (omega (arith, up))) old.chains;
  heap = kept.heap_kept s.heap w x (λ a m lo up. mid a m (omega (arith, lo)) (omega (arith, up))) (λ a m lo up. high a m (omega (arith, lo)) (omega (arith, up))) old.heap;
  files = kept.files_kept s.files v.files_count w x (λ a m lo up. mid a m (omega (arith, lo)) up) old.files;
  line = kept.line_kept s.line v.line b c line old.line;
  variables = counted s w x first high (suc (length s.frames)) (length (s.frames ++ f ∷ [])) (sym (longer s.frames f)) count old.variables;
}

-- the frames from the n-th on are counted no more
pub reads_popped : (s : KernelState) → Valid s → (w x b c : ℕ → ℕ) → SameBytes 0xE900 0xEA00 b c → (n : ℕ) → n ≤ length s.frames → Same 0xB000 (frame_at n) w x → Same 0xCF00 0xE900 w x → Same 0xEA00 0xEA08 w x → Same 0xEA0C 0xEB00 w x → x 0xEA08 ≡ n → Reads s w b → Reads record s { frames = take n s.frames } x c
reads_popped s v w x b c line n le low mid first high count old = record {
  threads = kept.threads_kept s.current s.threads v.threads_most w x (λ a m lo up. low a m lo (omega (arith, up))) old.threads;
  events = kept.events_kept s.events v.events_most w x (λ a m lo up. low a m (omega (arith, lo)) (omega (arith, up))) old.events;
  frames = λ k lt.
      let few : k < n = omega (arith, lt, length-take-le n s.frames le) in
      let there : k < length s.frames = omega arith in
      let fit = v.frames k no_frame there in
      subst (λ f. FrameAt x (frame_at k) f) (sym (get_or-take n s.frames k no_frame few))
      (kept.frame_kept w x (frame_at k) (slice_index_or s.frames k no_frame) (omega arith) fit.tasks.elements fit.tasks.lines (λ a m lo up. low a m (omega (arith, lo)) (omega (arith, up, few))) (old.frames k there));
  chains = kept.chains_kept s.chains v.chains_count v.chains w x (λ a m lo up. mid a m lo (omega (arith, up))) old.chains;
  heap = kept.heap_kept s.heap w x (λ a m lo up. mid a m (omega (arith, lo)) (omega (arith, up))) (λ a m lo up. high a m (omega (arith, lo)) (omega (arith, up))) old.heap;
  files = kept.files_kept s.files v.files_count w x (λ a m lo up. mid a m (omega (arith, lo)) up) old.files;
  line = kept.line_kept s.line v.line b c line old.line;
  variables = counted s w x first high n (length (take n s.frames)) (sym (length-take-le n s.frames le)) count old.variables;
}

-- ---- stacks and chains

-- one number more is stored behind the others, which stay
pub stack_more : (w x : ℕ → ℕ) (at e : ℕ) (es : List ℕ) → at % 4 ≡ 0 → Same at (at + 4 * length es) w x → x (at + 4 * length es) ≡ e → Stack w at es → Stack x at (e ∷ es)
stack_more w x at e es al s new old = (new, stack_same w x at (at + 4 * length es) es al (omega arith) s old)

-- a list that stands behind another
pub stack_join : (w : ℕ → ℕ) (at : ℕ) (xs ys : List ℕ) → Stack w at xs → Stack w (at + 4 * length xs) ys → Stack w at (ys ++ xs)
stack_join w at xs [] h k = h
stack_join w at xs (y ∷ ys) h k = (ap w (let e : at + 4 * length (ys ++ xs) ≡ at + 4 * length xs + 4 * length ys = omega (arith, length-append ys xs) in e) ∙ k.0, stack_join w at xs ys h k.1)

-- an element is put at the head of a chain: a store behind the others, and the count
pub chain_more : (w x : ℕ → ℕ) (at e : ℕ) (es : List ℕ) → at % 4 ≡ 0 → Same (at + 4) (at + 4 + 4 * length es) w x → x (at + 4 + 4 * length es) ≡ e → x at ≡ suc (length es) → ChainAt w at es → ChainAt x at (e ∷ es)
chain_more w x at e es al s new count old = record { count = count; elements = stack_more w x (at + 4) e es (omega arith) s new old.elements }

-- the head of a chain is dropped: the count is one less
pub chain_less : (w x : ℕ → ℕ) (at e : ℕ) (es : List ℕ) → at % 4 ≡ 0 → Same (at + 4) (at + 4 + 4 * length es) w x → x at ≡ length es → ChainAt w at (e ∷ es) → ChainAt x at es
chain_less w x at e es al s count old = record { count = count; elements = stack_same w x (at + 4) (at + 4 + 4 * length es) es (omega arith) (omega arith) s old.elements.1 }

-- ---- the line

-- the line is another, and its length is stored
pub reads_line : (s : KernelState) → Valid s → (w x b c : ℕ → ℕ) (line : List ℕ) → Same 0xB000 0xE900 w x → Same 0xEA00 0xEA20 w x → Same 0xEA24 0xEB00 w x → x 0xEA20 ≡ length line → LineAt c line → Reads s w b → Reads record s { line = line } x c
reads_line s v w x b c line low mid high count new old = record {
  threads = kept.threads_kept s.current s.threads v.threads_most w x (λ a m lo up. low a m lo (omega (arith, up))) old.threads;
  events = kept.events_kept s.events v.events_most w x (λ a m lo up. low a m (omega (arith, lo)) (omega (arith, up))) old.events;
  frames = kept.frames_kept (length s.events) s.frames v.frames w x (λ a m lo up. low a m (omega (arith, lo)) (omega (arith, up, v.frames_most))) old.frames;
  chains = kept.chains_kept s.chains v.chains_count v.chains w x (λ a m lo up. low a m (omega (arith, lo)) (omega (arith, up))) old.chains;
  heap = kept.heap_kept s.heap w x (λ a m lo up. low a m (omega (arith, lo)) (omega (arith, up))) (λ a m lo up. high a m (omega (arith, lo)) (omega (arith, up))) old.heap;
  files = kept.files_kept s.files v.files_count w x (λ a m lo up. low a m (omega (arith, lo)) up) old.files;
  line = new;
  variables =
      let front = block_same w x 0xEA00 0 0x20 ((0, s.current) ∷ (4, next_word s.next) ∷ (8, length s.frames) ∷ (0xC, length s.threads) ∷ (0x10, length s.events) ∷ (0x14, s.random) ∷ (0x18, s.token) ∷ (0x1C, s.errno) ∷ []) refl refl mid (old.variables.0, (old.variables.1.0, (old.variables.1.1.0, (old.variables.1.1.1.0, (old.variables.1.1.1.1.0, (old.variables.1.1.1.1.1.0, (old.variables.1.1.1.1.1.1.0, (old.variables.1.1.1.1.1.1.1.0, tt)))))))) in
      let base = high 0xEA24 refl (omega arith) (omega arith) ∙ old.variables.1.1.1.1.1.1.1.1.1.0 in
      (front.0, (front.1.0, (front.1.1.0, (front.1.1.1.0, (front.1.1.1.1.0, (front.1.1.1.1.1.0, (front.1.1.1.1.1.1.0, (front.1.1.1.1.1.1.1.0, (count, (base, tt))))))))));
}

-- a byte is stored behind the line
pub line_more : (b c : ℕ → ℕ) (line : List ℕ) (v : ℕ) → SameBytes 0xE900 (0xE900 + length line) b c → c (0xE900 + length line) ≡ v → LineAt b line → LineAt c (line ++ v ∷ [])
line_more b c line v s new old = all_pushed (λ k z. c (0xE900 + k) ≡ z) 0 line v (λ k lt. s (0xE900 + k) (omega arith) (omega arith) ∙ old k lt) new

-- ---- another running thread

-- the fields of a thread that isn't the running one, and of the running one
apart_fields : (m n j : ℕ) (t : Thread) → (j ≡ m → ⊥) → (j ≡ n → ⊥) → thread_fields m j t ≡ thread_fields n j t
apart_fields m n j Free a b = refl
apart_fields m n j (Used t) a b = ap (λ z. (0, 0x4000) ∷ cond z [] (saved t)) (ne_eqb j m a ∙ sym (ne_eqb j n b))

status_fields : (w : ℕ → ℕ) (at m n j : ℕ) (t : Thread) → j ≡ n → Block w at (thread_fields m j t) → Block w at (thread_fields n j t)
status_fields w at m n j Free e h = h
status_fields w at m n j (Used t) e h = subst (λ z. Block w at ((0, 0x4000) ∷ cond z [] (saved t))) (sym (eq-eqb j n e)) (h.0, tt)

-- the running thread's block is written, and then another thread is the running one
pub reads_switched : (s : KernelState) → Valid s → (w x b c : ℕ → ℕ) → SameBytes 0xE900 0xEA00 b c → (n : ℕ) (t : Thread) → Same 0xB000 (thread_at s.current) w x → Same (thread_at s.current + 0xC0) 0xE900 w x → Same 0xEA04 0xEB00 w x → Block x (thread_at s.current) (thread_fields n s.current t) → x 0xEA00 ≡ n → Reads s w b → Reads record s { threads = slice_set s.threads s.current t; current = n } x c
reads_switched s v w x b c line n t low mid high new now old = record {
  threads = λ j lt. by_place j (omega (arith, lt, length-set s.threads s.current t)) (cases_eq j s.current) (cases_eq j n);
  events = kept.events_kept s.events v.events_most w x (λ a m lo up. mid a m (omega (arith, lo, v.current, v.threads_most)) (omega (arith, up))) old.events;
  frames = kept.frames_kept (length s.events) s.frames v.frames w x (λ a m lo up. mid a m (omega (arith, lo, v.current, v.threads_most)) (omega (arith, up, v.frames_most))) old.frames;
  chains = kept.chains_kept s.chains v.chains_count v.chains w x (λ a m lo up. mid a m (omega (arith, lo, v.current, v.threads_most)) (omega (arith, up))) old.chains;
  heap = kept.heap_kept s.heap w x (λ a m lo up. mid a m (omega (arith, lo, v.current, v.threads_most)) (omega (arith, up))) (λ a m lo up. high a m (omega (arith, lo)) (omega (arith, up))) old.heap;
  files = kept.files_kept s.files v.files_count w x (λ a m lo up. mid a m (omega (arith, lo, v.current, v.threads_most)) up) old.files;
  line = kept.line_kept s.line v.line b c line old.line;
  variables =
      let back = block_same w x 0xEA00 4 0x100 ((4, next_word s.next) ∷ (8, length s.frames) ∷ (0xC, length s.threads) ∷ (0x10, length s.events) ∷ (0x14, s.random) ∷ (0x18, s.token) ∷ (0x1C, s.errno) ∷ (0x20, length s.line) ∷ (0x24, s.heap.base) ∷ []) refl refl high old.variables.1 in
      subst (λ k. Block x 0xEA00 ((0, n) ∷ (4, next_word s.next) ∷ (8, length s.frames) ∷ (0xC, k) ∷ (0x10, length s.events) ∷ (0x14, s.random) ∷ (0x18, s.token) ∷ (0x1C, s.errno) ∷ (0x20, length s.line) ∷ (0x24, s.heap.base) ∷ [])) (sym (length-set s.threads s.current t)) (now, back);
}
  where
    by_place : (j : ℕ) → j < length s.threads → (j ≡ s.current) ⊎ (j ≡ s.current → ⊥) → (j ≡ n) ⊎ (j ≡ n → ⊥) → Block x (thread_at j) (thread_fields n j (slice_index_or (slice_set s.threads s.current t) j Free))
    by_place j lt (inl e) k = subst (λ z. Block x (thread_at z) (thread_fields n z (slice_index_or (slice_set s.threads s.current t) z Free))) (sym e) (subst (λ z. Block x (thread_at s.current) (thread_fields n s.current z)) (sym (get_or-set_same s.threads s.current t Free v.current)) new)
    by_place j lt (inr ne) k =
        let there : Block x (thread_at j) (thread_fields s.current j (thread s j)) = block_same w x (thread_at j) 0 0xC0 (thread_fields s.current j (thread s j)) (omega arith) (kept.fit_thread s.current j (thread s j)) (λ a m lo up. ⊎_elim (λ (l : j < s.current). low a m (omega (arith, lo)) (omega (arith, up, l))) (λ (g : s.current ≤ j). mid a m (omega (arith, lo, g, ne)) (omega (arith, up, lt, v.threads_most))) (cases_lt j s.current)) (old.threads j lt) in
        subst (λ z. Block x (thread_at j) (thread_fields n j z)) (sym (get_or-set_other s.threads s.current j t Free ne))
        (⊎_elim (λ (e : j ≡ n). status_fields x (thread_at j) s.current n j (thread s j) e there) (λ (d : j ≡ n → ⊥). subst (λ f. Block x (thread_at j) f) (apart_fields s.current n j (thread s j) ne d) there) k)
