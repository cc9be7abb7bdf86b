-- For each valid state there is a memory that reads as it.
use Rattle.std.proofs.Common.{◌≡◌, ℕ, zero, suc, ◌+◌, ◌-◌, ◌*◌, ◌%◌, ◌<◌, ◌≤◌, true, cond, length, refl, sym, ap, ◌∙◌, subst, arith, inl, inr, ⊎_elim}
use Rattle.std.specs.Prelude.{◌⊎◌, nat_lt, nat_eq, None, slice_index}
use Rattle.std.proofs.lemmas.Bool.{cases_eq, ne_eqb}
use Rattle.psx_base.specs.Memory.{Memory, byte, word, put_word, put_bytes}
use Rattle.psx_ram.specs.Apart.{apart}
use Rattle.psx_ram.proofs.Laws.{word-put_word_same, word-put_word_apart, byte-put_word_apart}
use Rattle.psx_ram.proofs.Bytes.{byte-put_bytes_at, byte-put_bytes_apart, word-put_bytes_apart}
use Rattle.psx_base.specs.KernelState.{Free, KernelState}
use Rattle.kern_layout.specs.Contexts.{thread_fields}
use Rattle.kern_layout.specs.Reads.{Reads, event_fields, no_event, file_fields, variables}
use Rattle.kern_layout.specs.Valid.{Valid}
use Rattle.kern_layout.proofs.ReadingsMade as made
use Rattle.kern_layout.proofs.ReadingsMade.{chosen, passed, look, looked}
use Rattle.kern_layout.proofs.HeapMade.{heap_word, heap_made, link, spare_link}
use Rattle.kern_layout.proofs.Written.{reads_free}

-- ---- the words

abbrev pub variable_word : KernelState → ℕ → ℕ
variable_word s o = cond (nat_eq o 0x40) (link (length s.heap.blocks) 0) (cond (nat_eq o 0x44) (spare_link (length s.heap.blocks)) (look (variables s) o))

unfoldable pub word_of : KernelState → ℕ → ℕ
word_of s a = cond (nat_lt a 0xBC00) (made.threads_word s.current s.threads a) (cond (nat_lt a 0xC300) (made.events_word s.events a) (cond (nat_lt a 0xCF00) (made.frames_word s.frames a) (cond (nat_lt a 0xD000) (made.chains_word s.chains a) (cond (nat_lt a 0xE800) (heap_word s.heap.blocks a) (cond (nat_lt a 0xEA00) (made.files_word s.files a) (variable_word s (a - 0xEA00)))))))

of_threads : (s : KernelState) (a : ℕ) → a < 0xBC00 → word_of s a ≡ made.threads_word s.current s.threads a
unfolding word_of
of_threads s a up = chosen a 0xBC00 _ _ up

of_events : (s : KernelState) (a : ℕ) → 0xBC00 ≤ a → a < 0xC300 → word_of s a ≡ made.events_word s.events a
unfolding word_of
of_events s a lo up = passed a 0xBC00 _ _ lo ∙ chosen a 0xC300 _ _ up

of_frames : (s : KernelState) (a : ℕ) → 0xC300 ≤ a → a < 0xCF00 → word_of s a ≡ made.frames_word s.frames a
unfolding word_of
of_frames s a lo up = passed a 0xBC00 _ _ (omega arith) ∙ passed a 0xC300 _ _ lo ∙ chosen a 0xCF00 _ _ up

of_chains : (s : KernelState) (a : ℕ) → 0xCF00 ≤ a → a < 0xD000 → word_of s a ≡ made.chains_word s.chains a
unfolding word_of
of_chains s a lo up = passed a 0xBC00 _ _ (omega arith) ∙ passed a 0xC300 _ _ (omega arith) ∙ passed a 0xCF00 _ _ lo ∙ chosen a 0xD000 _ _ up

of_heap : (s : KernelState) (a : ℕ) → 0xD000 ≤ a → a < 0xE800 → word_of s a ≡ heap_word s.heap.blocks a
unfolding word_of
of_heap s a lo up = passed a 0xBC00 _ _ (omega arith) ∙ passed a 0xC300 _ _ (omega arith) ∙ passed a 0xCF00 _ _ (omega arith) ∙ passed a 0xD000 _ _ lo ∙ chosen a 0xE800 _ _ up

of_files : (s : KernelState) (a : ℕ) → 0xE800 ≤ a → a < 0xEA00 → word_of s a ≡ made.files_word s.files a
unfolding word_of
of_files s a lo up = passed a 0xBC00 _ _ (omega arith) ∙ passed a 0xC300 _ _ (omega arith) ∙ passed a 0xCF00 _ _ (omega arith) ∙ passed a 0xD000 _ _ (omega arith) ∙ passed a 0xE800 _ _ lo ∙ chosen a 0xEA00 _ _ up

of_variables : (s : KernelState) (o : ℕ) → word_of s (0xEA00 + o) ≡ variable_word s o
unfolding word_of
of_variables s o = passed (0xEA00 + o) 0xBC00 _ _ (omega arith) ∙ passed (0xEA00 + o) 0xC300 _ _ (omega arith) ∙ passed (0xEA00 + o) 0xCF00 _ _ (omega arith) ∙ passed (0xEA00 + o) 0xD000 _ _ (omega arith) ∙ passed (0xEA00 + o) 0xE800 _ _ (omega arith) ∙ passed (0xEA00 + o) 0xEA00 _ _ (omega arith) ∙ ap (variable_word s) (let e : 0xEA00 + o - 0xEA00 ≡ o = omega arith in e)

other_variable : (s : KernelState) (o : ℕ) → o < 0x28 → variable_word s o ≡ look (variables s) o
other_variable s o up = ap (λ b. cond b (link (length s.heap.blocks) 0) (cond (nat_eq o 0x44) (spare_link (length s.heap.blocks)) (look (variables s) o))) (ne_eqb o 0x40 (λ e. omega arith)) ∙ ap (λ b. cond b (spare_link (length s.heap.blocks)) (look (variables s) o)) (ne_eqb o 0x44 (λ e. omega arith))

reads_made : (s : KernelState) → Valid s → (b : ℕ → ℕ) → ((k : ℕ) → k < length s.line → b (0xE900 + k) ≡ slice_index s.line k) → Reads s (word_of s) b
reads_made s v b line = record {
  threads = made.rows_made 0xB000 0xC0 (thread_fields s.current) Free made.threads_quotient made.threads_rest (made.climb_thread s.current) (word_of s) s.threads (λ a lo up. of_threads s a (omega (arith, up, v.threads_most)));
  events = made.rows_made 0xBC00 0x1C event_fields no_event made.events_quotient made.events_rest made.climb_event (word_of s) s.events (λ a lo up. of_events s a lo (omega (arith, up, v.events_most)));
  frames = made.frames_made (length s.events) (word_of s) s.frames v.frames_most v.frames (of_frames s);
  chains = made.chains_made (word_of s) s.chains v.chains_count v.chains (of_chains s);
  heap = heap_made (word_of s) s.heap.blocks v.heap.few (λ a al lo up. of_heap s a lo up) s.heap refl (of_variables s 0x40) (of_variables s 0x44);
  files = made.rows_made 0xE800 4 file_fields None made.files_quotient made.files_rest made.climb_file (word_of s) s.files (λ a lo up. of_files s a lo (omega (arith, up, v.files_count)));
  line = line;
  variables = looked (word_of s) 0xEA00 0 0x28 (variables s) refl (λ o lo up. of_variables s o ∙ other_variable s o up);
}

-- ---- the memory

-- n words from an address on are those of a function
unfoldable pub fill : ℕ → ℕ → (ℕ → ℕ) → Memory → Memory
fill from zero f m = m
fill from (suc n) f m = put_word (fill from n f m) (from + 4 * n) (f (from + 4 * n))

words_apart : (a b : ℕ) → (a + 4 ≤ b) ⊎ (b + 4 ≤ a) → apart a 4 b 4 ≡ true
words_apart a b h = grind arith

byte_apart : (a b : ℕ) → (b < a) ⊎ (a + 4 ≤ b) → apart a 4 b 1 ≡ true
byte_apart a b h = grind arith

word-fill : (from n : ℕ) (f : ℕ → ℕ) (m : Memory) (a : ℕ) → from % 4 ≡ 0 → a % 4 ≡ 0 → from ≤ a → a < from + 4 * n → word (fill from n f m) a ≡ f a
unfolding fill
word-fill from zero f m a al am lo up = absurd (omega arith)
word-fill from (suc n) f m a al am lo up =
    ⊎_elim
    (λ (e : a ≡ from + 4 * n). subst (λ z. word (put_word (fill from n f m) (from + 4 * n) (f (from + 4 * n))) z ≡ f z) (sym e) (word-put_word_same (fill from n f m) (from + 4 * n) (f (from + 4 * n))))
    (λ (ne : a ≡ from + 4 * n → ⊥).
    let lt : a < from + 4 * n = omega (arith, ne, al, am, up) in
    word-put_word_apart (fill from n f m) (from + 4 * n) (f (from + 4 * n)) a (words_apart (from + 4 * n) a (inr (omega (arith, lt, al, am)))) ∙ word-fill from n f m a al am lo lt)
    (cases_eq a (from + 4 * n))

byte-fill : (from n : ℕ) (f : ℕ → ℕ) (m : Memory) (a : ℕ) → (a < from) ⊎ (from + 4 * n ≤ a) → byte (fill from n f m) a ≡ byte m a
unfolding fill
byte-fill from zero f m a o = refl
byte-fill from (suc n) f m a o = byte-put_word_apart (fill from n f m) (from + 4 * n) (f (from + 4 * n)) a (byte_apart (from + 4 * n) a (⊎_elim (λ l. inl (omega (arith, l))) (λ g. inr (omega (arith, g))) o)) ∙ byte-fill from n f m a (⊎_elim (λ l. inl l) (λ g. inr (omega (arith, g))) o)

-- the kernel's blocks filled with the state, and the line over them
unfoldable pub made_memory : KernelState → Memory → Memory
made_memory s m = put_bytes (fill 0xB000 0x1400 (word_of s) m) 0xE900 s.line

line_apart : (n b : ℕ) → n ≤ 254 → (b + 4 ≤ 0xE900) ⊎ (0xEA00 ≤ b) → apart 0xE900 n b 4 ≡ true
line_apart n b few h = grind arith

word-made : (s : KernelState) (m : Memory) → length s.line ≤ 254 → (a : ℕ) → a % 4 ≡ 0 → 0xB000 ≤ a → a < 0x10000 → (a < 0xE900) ⊎ (0xEA00 ≤ a) → word (made_memory s m) a ≡ word_of s a
unfolding made_memory
word-made s m few a al lo up o = word-put_bytes_apart (fill 0xB000 0x1400 (word_of s) m) 0xE900 s.line a (line_apart (length s.line) a few (⊎_elim (λ l. inl (omega (arith, l, al))) (λ g. inr g) o)) ∙ word-fill 0xB000 0x1400 (word_of s) m a refl al lo (omega (arith, up))

byte-made_line : (s : KernelState) (m : Memory) (k : ℕ) → k < length s.line → byte (made_memory s m) (0xE900 + k) ≡ slice_index s.line k
unfolding made_memory
byte-made_line s m k lt = byte-put_bytes_at (fill 0xB000 0x1400 (word_of s) m) 0xE900 s.line k lt

pub byte-made_outside : (s : KernelState) (m : Memory) → length s.line ≤ 254 → (a : ℕ) → (a < 0xB000) ⊎ (0x10000 ≤ a) → byte (made_memory s m) a ≡ byte m a
unfolding made_memory
byte-made_outside s m few a o = byte-put_bytes_apart (fill 0xB000 0x1400 (word_of s) m) 0xE900 s.line a (⊎_elim (λ l. inl (omega (arith, l))) (λ g. inr (omega (arith, g, few))) o) ∙ byte-fill 0xB000 0x1400 (word_of s) m a (⊎_elim (λ l. inl l) (λ g. inr (omega (arith, g))) o)

pub reads_memory : (s : KernelState) → Valid s → (m : Memory) → Reads s (word (made_memory s m)) (byte (made_memory s m))
reads_memory s v m =
    let n = made_memory s m in
    reads_free s v (word_of s) (word n) (byte n) (byte n) (λ a lo up. refl)
    (λ a al lo up. word-made s m v.line a al lo (omega (arith, up, v.frames_most)) (inl (omega (arith, up, v.frames_most))))
    (λ a al lo up. word-made s m v.line a al (omega (arith, lo)) (omega (arith, up)) (inl up))
    (λ a al lo up. word-made s m v.line a al (omega (arith, lo)) (omega (arith, up)) (inr lo))
    (reads_made s v (byte n) (byte-made_line s m))
