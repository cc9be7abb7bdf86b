-- The state that memory stands for while tasks are done: an event is made ready, and the work area is written behind its context.
use Rattle.std.proofs.Common.{◌≡◌, ℕ, ◌+◌, ◌*◌, ◌%◌, ◌<◌, ◌≤◌, ◌⊎◌, inl, inr, true, List, length, refl, sym, ◌∙◌, subst, arith, ⊎_elim}
use Rattle.std.specs.Prelude.{All, None}
use Rattle.std.proofs.lemmas.List.{length-set}
use Rattle.psx_base.specs.Memory.{Memory, byte, word, put_word}
use Rattle.psx_base.specs.KernelState.{ThreadContext, Event, KernelState}
use Rattle.psx_ram.specs.Apart.{apart}
use Rattle.psx_ram.proofs.Laws.{byte-put_word_apart}
use Rattle.kern_layout.specs.Fields.{Block}
use Rattle.kern_layout.specs.Contexts.{saved}
use Rattle.kern_layout.specs.Stores.{SameOutside, SameBytes, put, with_event}
use Rattle.kern_layout.specs.Reads.{Reads, event, event_at, event_fields, no_event, next_word}
use Rattle.kern_layout.specs.Valid.{FrameFits, ChainFits, Valid}
use Rattle.kern_layout.proofs.Blocks.{block_same, block_put, put_other, rows_set}
use Rattle.kern_layout.proofs.MemoryStored.{word_stored}
use Rattle.kern_layout.proofs.ReadingsKept as kept
use Rattle.kern_layout.proofs.Written.{below, above, variable_fields}
use Rattle.abs_kernel.specs.Scan.{made_ready, with_ready}
use Rattle.kern_stay.specs.Doors.{Holds}
use Rattle.kern_stay.proofs.Holding.{user_high}

-- the sizes of a state's tables, whatever runs and is to be taken up
pub record Sized (s : KernelState) : Type 0 where
  pub threads : length s.threads ≤ 16
  pub events : length s.events ≤ 64
  pub frames_most : length s.frames ≤ 8
  pub frames : All (FrameFits (length s.events)) s.frames
  pub chains_count : length s.chains ≡ 4
  pub chains : All ChainFits s.chains
  pub files : length s.files ≡ 16
  pub line : length s.line ≤ 254

pub sized : (s : KernelState) → Valid (record s { next = None }) → Sized s
sized s v = record {
  threads = v.threads_most;
  events = v.events_most;
  frames_most = v.frames_most;
  frames = v.frames;
  chains_count = v.chains_count;
  chains = v.chains;
  files = v.files_count;
  line = v.line;
}

-- with other events
pub sized_events : (s : KernelState) (events : List Event) → length events ≡ length s.events → Sized s → Sized (record s { events = events })
sized_events s events e z = record {
  threads = z.threads;
  events = omega (arith, e, z.events);
  frames_most = z.frames_most;
  frames = subst (λ n. All (FrameFits n) s.frames) (sym e) z.frames;
  chains_count = z.chains_count;
  chains = z.chains;
  files = z.files;
  line = z.line;
}

-- ---- stores to the work area behind the context

apart_out : (p a : ℕ) → (a < p) ⊎ (p + 4 ≤ a) → apart p 4 a 1 ≡ true
apart_out p a h = grind arith

-- nothing else is written
pub record Behind (m n : Memory) : Type 0 where
  pub words : (a : ℕ) → a % 4 ≡ 0 → a < 0xEB98 → word n a ≡ word m a
  pub bytes : (a : ℕ) → (a < 0xEB98) ⊎ (0x10000 ≤ a) → byte n a ≡ byte m a

pub behind_none : (m : Memory) → Behind m m
behind_none m = record { words = λ a al up. refl; bytes = λ a out. refl }

pub behind_put : (m n : Memory) (p v : ℕ) → p % 4 ≡ 0 → 0xEB98 ≤ p → p < 0x10000 → Behind m n → Behind m (put_word n p v)
behind_put m n p v al low high b = record {
  words = λ a ala up. word_stored n p v a al ala ∙ put_other (word n) p v a (λ e. omega (arith, e, up, low)) ∙ b.words a ala up;
  bytes = λ a out. byte-put_word_apart n p v a (apart_out p a (⊎_elim (λ l. inl (omega (arith, l, low))) (λ g. inr (omega (arith, g, high, al))) out)) ∙ b.bytes a out;
}

pub holds_behind : (s : KernelState) (c : ThreadContext) → Sized s → (m n : Memory) → Behind m n → Holds (record s { running = c }) m → Holds (record s { running = c }) n
holds_behind s c z m n b h =
    let w : ℕ → ℕ = word m in
    let x : ℕ → ℕ = word n in
    let r = h.reads in
    record {
      settled = h.settled;
      area = block_same w x 0xEB00 0 0x98 (saved c) refl refl (λ a al lo up. b.words a al up) h.area;
      reads = record {
        threads = kept.threads_kept s.current s.threads z.threads w x (λ a al lo up. b.words a al (omega (arith, up))) r.threads;
        events = kept.events_kept s.events z.events w x (λ a al lo up. b.words a al (omega (arith, up))) r.events;
        frames = kept.frames_kept (length s.events) s.frames z.frames w x (λ a al lo up. b.words a al (omega (arith, up, z.frames_most))) r.frames;
        chains = kept.chains_kept s.chains z.chains_count z.chains w x (λ a al lo up. b.words a al (omega (arith, up))) r.chains;
        heap = kept.heap_kept s.heap w x (λ a al lo up. b.words a al (omega (arith, up))) (λ a al lo up. b.words a al (omega (arith, up))) r.heap;
        files = kept.files_kept s.files z.files w x (λ a al lo up. b.words a al (omega (arith, up))) r.files;
        line = kept.line_kept s.line z.line (byte m) (byte n) (λ a lo up. b.bytes a (inl (omega (arith, up)))) r.line;
        variables = kept.variables_kept (record s { running = c }) w x (λ a al lo up. b.words a al (omega (arith, up))) r.variables;
      };
      user = λ a u. b.bytes a (inr (user_high a u)) ∙ h.user a u;
    }

-- ---- an event becomes ready

-- its block is written
reads_ready : (s : KernelState) → Sized s → (w x b c : ℕ → ℕ) → SameBytes 0xE900 0xEA00 b c → (i : ℕ) (e : Event) → i < length s.events
    → SameOutside (event_at i) (event_at i + 0x1C) w x → Block x (event_at i) (event_fields i e) → Reads s w b → Reads (with_event s i e) x c
reads_ready s z w x b c line i e lt out new old =
    let few : event_at i + 0x1C ≤ 0xC300 = omega (arith, lt, z.events) in
    let from = event_at i in
    let to = event_at i + 0x1C in
    record {
      threads = kept.threads_kept s.current s.threads z.threads w x (below from to 0xB000 0xBC00 w x (omega arith) out) old.threads;
      events = rows_set 0xBC00 0x1C event_fields no_event kept.event_aligned kept.fit_event w x s.events i e lt out new old.events;
      frames = kept.frames_kept (length s.events) s.frames z.frames w x (above from to 0xC300 (0xC300 + 0x180 * length s.frames) w x few out) old.frames;
      chains = kept.chains_kept s.chains z.chains_count z.chains w x (above from to 0xCF00 0xD000 w x (omega (arith, few)) out) old.chains;
      heap = kept.heap_kept s.heap w x (above from to 0xD000 0xE800 w x (omega (arith, few)) out) (above from to 0xEA40 0xEA48 w x (omega (arith, few)) out) old.heap;
      files = kept.files_kept s.files z.files w x (above from to 0xE800 0xE900 w x (omega (arith, few)) out) old.files;
      line = kept.line_kept s.line z.line b c line old.line;
      variables = subst (λ n. Block x 0xEA00 (variable_fields s.current (next_word s.next) (length s.frames) (length s.threads) n s.random s.token s.errno (length s.line) s.heap.base)) (sym (length-set s.events i e))
          (kept.variables_kept s w x (above from to 0xEA00 0xEA28 w x (omega (arith, few)) out) old.variables);
    }

pub holds_ready : (s : KernelState) (c : ThreadContext) → Sized s → (m : Memory) → Holds (record s { running = c }) m → (i : ℕ) → i < length s.events → Holds (record (with_ready s i) { running = c }) (put_word m (event_at i + 4) 0x4000)
holds_ready s c z m h i lt =
    let p : ℕ = event_at i + 4 in
    let n : Memory = put_word m p 0x4000 in
    let high : p + 4 ≤ 0xC300 = omega (arith, lt, z.events) in
    let al : p % 4 ≡ 0 = omega arith in
    let is : (a : ℕ) → a % 4 ≡ 0 → word n a ≡ put (word m) p 0x4000 a = λ a ala. word_stored m p 0x4000 a al ala in
    let out : (a : ℕ) → a % 4 ≡ 0 → (a < p) ⊎ (p + 4 ≤ a) → word n a ≡ word m a
    = λ a ala o. is a ala ∙ put_other (word m) p 0x4000 a (λ e. ⊎_elim (λ l. omega (arith, e, l)) (λ g. omega (arith, e, g)) o) in
    let others : (a : ℕ) → (a < p) ⊎ (p + 4 ≤ a) → byte n a ≡ byte m a = λ a o. byte-put_word_apart m p 0x4000 a (apart_out p a o) in
    record {
      settled = h.settled;
      area = block_same (word m) (word n) 0xEB00 0 0x98 (saved c) refl refl (λ a ala lo up. out a ala (inr (omega (arith, lo, high)))) h.area;
      reads = reads_ready (record s { running = c }) (record { threads = z.threads; events = z.events; frames_most = z.frames_most; frames = z.frames; chains_count = z.chains_count; chains = z.chains; files = z.files; line = z.line }) (word m) (word n) (byte m) (byte n)
          (λ a lo up. others a (inr (omega (arith, lo, high)))) i (made_ready (event s i)) lt (λ a ala o. out a ala (⊎_elim (λ l. inl (omega (arith, l))) (λ g. inr (omega (arith, g))) o))
          (block_same (put (word m) p 0x4000) (word n) (event_at i) 0 0x1C (event_fields i (made_ready (event s i))) (omega arith) refl (λ a ala lo up. is a ala) (block_put (word m) (event_at i) 4 0x4000 (event_fields i (event s i)) (h.reads.events i lt))) h.reads;
      user = λ a u. (let far = user_high a u in others a (inr (omega (arith, far, high)))) ∙ h.user a u;
    }
