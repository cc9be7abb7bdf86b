-- The memory that is made of a state in words has bytes.
use Rattle.std.proofs.Common.{ℕ, zero, suc, ◌+◌, ◌-◌, ◌*◌, ◌/◌, ◌%◌, ◌^◌, ◌<◌, ◌≤◌, Bool, true, false, cond, eqb, List, [], ◌∷◌, length, sym, subst, arith, ⊎_elim}
use Rattle.std.specs.Prelude.{◌||◌, Option, Some, None, nat_eq, nat_lt, slice_index_or, replicate, All}
use Rattle.std.proofs.lemmas.Bool.{cases_lt}
use Rattle.std.proofs.lemmas.List.{get_or_past, get_or-replicate, length-replicate}
use Rattle.psx_base.specs.Registers.{nth, registers, no_registers}
use Rattle.psx_base.specs.Memory.{Memory, byte, put_byte, put_word, put_bytes}
use Rattle.psx_base.specs.KernelState.{ThreadContext, Thread, Free, Used, Event, Task, Element, Second, Line, Scan, Frame, KernelState}
use Rattle.psx_ram.proofs.Laws.{byte-put_byte}
use Rattle.kern_layout.specs.Fields.{Fields}
use Rattle.kern_layout.specs.Contexts.{saved, saved_sr_of, thread_fields}
use Rattle.kern_layout.specs.Tasks.{elements_of, lines_of, under_way_fields, count_fields}
use Rattle.kern_layout.specs.Reads.{event_fields, no_event, file_fields, no_frame, no_context, variables, next_word}
use Rattle.kern_layout.specs.Valid.{Valid, FileFits, NextFits}
use Rattle.kern_layout.specs.Fits.{IsWord, ContextInWords, ThreadInWords, EventInWords, TaskInWords, FrameInWords, StateInWords, InBytes}
use Rattle.kern_layout.proofs.ReadingsMade.{look, stack_word, frame_word, chain_word}
use Rattle.kern_layout.proofs.HeapMade.{heap_word, link, spare_link, no_block}
use Rattle.kern_layout.proofs.MemoryMade.{word_of, fill, made_memory}
use Rattle.kern_layout.specs.Start.{opening}
use Rattle.kern_layout.specs.StateLaws.{StartsInWords}
use Rattle.kern_layout.proofs.StartValid.{all_cons}

-- ---- values of fields

abbrev pub AllWords : Fields → Type 0
AllWords [] = Unit {0}
AllWords (f ∷ fs) = IsWord f.1 × AllWords fs

pub either_word : (b : Bool) (x y : ℕ) → IsWord x → IsWord y → IsWord (cond b x y)
either_word true x y h k = h
either_word false x y h k = k

pub look_word : (f : Fields) (o : ℕ) → AllWords f → IsWord (look f o)
look_word [] o h = omega arith
look_word (y ∷ f) o h = either_word (nat_eq o y.0) y.1 (look f o) h.0 (look_word f o h.1)

-- what holds of each element and of what stands where there is none
pub at_any : {X : Type 0} (P : X → Type 0) (none : X) (xs : List X) (i : ℕ) → All P xs → P none → P (slice_index_or xs i none)
at_any P none xs i h k = ⊎_elim (λ lt. h i none lt) (λ le. subst P (sym (get_or_past xs i none le)) k) (cases_lt i (length xs))

sr_fits : (on : Bool) → IsWord (saved_sr_of on)
sr_fits true = omega arith
sr_fits false = omega arith

saved_words : (t : ThreadContext) → ContextInWords t → AllWords (saved t)
saved_words t h = (h.registers 1, (h.registers 2, (h.registers 3, (h.registers 4, (h.registers 5, (h.registers 6, (h.registers 7, (h.registers 8, (h.registers 9, (h.registers 10, (h.registers 11, (h.registers 12, (h.registers 13, (h.registers 14, (h.registers 15, (h.registers 16, (h.registers 17, (h.registers 18, (h.registers 19, (h.registers 20, (h.registers 21, (h.registers 22, (h.registers 23, (h.registers 24, (h.registers 25, (h.registers 28, (h.registers 29, (h.registers 30, (h.registers 31, (h.pc, (h.hi, (h.lo, (sr_fits t.interrupts, tt)))))))))))))))))))))))))))))))))

zero_fits : IsWord 0
zero_fits = omega arith

-- registers are words where each in their list is
abbrev EachWord : List ℕ → Type 0
EachWord [] = Unit {0}
EachWord (x ∷ xs) = IsWord x × EachWord xs

nth_word : (xs : List ℕ) (n : ℕ) → EachWord xs → IsWord (nth xs n)
nth_word [] n h = zero_fits
nth_word (x ∷ xs) zero h = h.0
nth_word (x ∷ xs) (suc n) h = nth_word xs n h.1

no_context_words : ContextInWords no_context
no_context_words = record { registers = λ n. nth_word (registers no_registers) n (zero_fits, (zero_fits, (zero_fits, (zero_fits, (zero_fits, (zero_fits, (zero_fits, (zero_fits, (zero_fits, (zero_fits, (zero_fits, (zero_fits, (zero_fits, (zero_fits, (zero_fits, (zero_fits, (zero_fits, (zero_fits, (zero_fits, (zero_fits, (zero_fits, (zero_fits, (zero_fits, (zero_fits, (zero_fits, (zero_fits, (zero_fits, (zero_fits, (zero_fits, (zero_fits, (zero_fits, (zero_fits, tt)))))))))))))))))))))))))))))))); hi = zero_fits; lo = zero_fits; pc = zero_fits }

-- ---- blocks

no_fields : (b : Bool) (f : Fields) → AllWords f → AllWords (cond b [] f)
no_fields true f h = tt
no_fields false f h = h

pub thread_words : (current i : ℕ) (t : Thread) → ThreadInWords t → AllWords (thread_fields current i t)
thread_words current i Free h = (omega arith, tt)
thread_words current i (Used t) h = (omega arith, no_fields (nat_eq i current) (saved t) (saved_words t h))

pub event_words : (i : ℕ) (e : Event) → EventInWords e → AllWords (event_fields i e)
event_words i e h = (h.class, (h.status, (h.spec, (h.mode, (h.function, tt)))))

pub no_event_words : EventInWords no_event
no_event_words = record { status = zero_fits; class = zero_fits; spec = zero_fits; mode = zero_fits; function = zero_fits }

pub file_words : (n : ℕ) (f : Option ℕ) → FileFits f → AllWords (file_fields n f)
file_words n None h = (zero_fits, tt)
file_words n (Some mode) h = (omega (arith, h.1), tt)

-- ---- frames and chains

first : {X : Type 0} (P : X → Type 0) (x : X) (xs : List X) → All P (x ∷ xs) → P x
first P x xs h = h 0 x (omega arith)

others : {X : Type 0} (P : X → Type 0) (x : X) (xs : List X) → All P (x ∷ xs) → All P xs
others P x xs h k d lt = h (suc k) d (omega arith)

way_words : (ts : List Task) → All TaskInWords ts → AllWords (under_way_fields ts)
way_words [] h = (zero_fits, tt)
way_words (Element e ∷ ts) h = (zero_fits, tt)
way_words (Second e ∷ ts) h = (omega arith, (first TaskInWords (Second e) ts h, tt))
way_words (Line n ∷ ts) h = (zero_fits, tt)
way_words (Scan class spec i ∷ ts) h = let q = first TaskInWords (Scan class spec i) ts h in (omega arith, (q.0, (q.1, (q.2, tt))))

element_words : (ts : List Task) → All TaskInWords ts → All IsWord (elements_of ts)
element_words [] h = λ k d lt. absurd (omega arith)
element_words (Element e ∷ ts) h = all_cons IsWord e (elements_of ts) (first TaskInWords (Element e) ts h) (element_words ts (others TaskInWords (Element e) ts h))
element_words (Second e ∷ ts) h = element_words ts (others TaskInWords (Second e) ts h)
element_words (Line n ∷ ts) h = element_words ts (others TaskInWords (Line n) ts h)
element_words (Scan class spec i ∷ ts) h = element_words ts (others TaskInWords (Scan class spec i) ts h)

line_words : (ts : List Task) → All TaskInWords ts → All IsWord (lines_of ts)
line_words [] h = λ k d lt. absurd (omega arith)
line_words (Element e ∷ ts) h = line_words ts (others TaskInWords (Element e) ts h)
line_words (Second e ∷ ts) h = line_words ts (others TaskInWords (Second e) ts h)
line_words (Line n ∷ ts) h = all_cons IsWord n (lines_of ts) (first TaskInWords (Line n) ts h) (line_words ts (others TaskInWords (Line n) ts h))
line_words (Scan class spec i ∷ ts) h = line_words ts (others TaskInWords (Scan class spec i) ts h)

stack_words : (xs : List ℕ) (o : ℕ) → All IsWord xs → IsWord (stack_word xs o)
stack_words xs o h = at_any IsWord 0 xs (length xs - 1 - o / 4) h zero_fits

-- a frame in words, with few enough tasks
pub record SmallFrame (f : Frame) : Type 0 where
  pub words : FrameInWords f
  pub elements : length (elements_of f.tasks) ≤ 32
  pub lines : length (lines_of f.tasks) ≤ 4

pub no_frame_small : SmallFrame no_frame
no_frame_small = record { words = record { context = no_context_words; tasks = λ k d lt. absurd (omega arith) }; elements = omega arith; lines = omega arith }

pub frame_words : (f : Frame) (o : ℕ) → SmallFrame f → IsWord (frame_word f o)
frame_words f o h =
    let few = h.elements in
    let four = h.lines in
    either_word (nat_lt o 0x98) _ _ (look_word (saved f.context) o (saved_words f.context h.words.context))
    (either_word (nat_lt o 0xA8) _ _ (look_word (under_way_fields f.tasks) o (way_words f.tasks h.words.tasks))
    (either_word (nat_lt o 0xB0) _ _ (look_word (count_fields f.tasks) o (omega (arith, few), (omega (arith, four), tt)))
    (either_word (nat_lt o 0x100) _ _ (stack_words (lines_of f.tasks) (o - 0xB0) (line_words f.tasks h.words.tasks)) (stack_words (elements_of f.tasks) (o - 0x100) (element_words f.tasks h.words.tasks)))))

-- a chain in words, with few enough elements
pub record SmallChain (es : List ℕ) : Type 0 where
  pub words : All IsWord es
  pub few : length es ≤ 8

pub no_chain_small : SmallChain []
no_chain_small = record { words = λ k d lt. absurd (omega arith); few = omega arith }

pub chain_words : (es : List ℕ) (o : ℕ) → SmallChain es → IsWord (chain_word es o)
chain_words es o h = let few = h.few in either_word (nat_lt o 4) _ _ (omega (arith, few)) (stack_words es (o - 4) h.words)

-- ---- the heap and the variables

pub heap_words : (bs : List (ℕ × Bool)) (a : ℕ) → a < 0x10000 → All (λ (b : ℕ × Bool). IsWord b.0) bs → IsWord (heap_word bs a)
heap_words bs a up h =
    let k = (a - 0xD000) / 12 in
    let o = (a - 0xD000) % 12 in
    either_word (nat_lt o 4) _ _ (link_word (length bs) (suc k) (omega arith))
    (either_word (nat_lt o 8) _ _ (at_any (λ (b : ℕ × Bool). IsWord b.0) no_block bs k h zero_fits) (either_word (slice_index_or bs k no_block).1 1 0 (omega arith) zero_fits))
  where
    link_word : (len j : ℕ) → j < 0x10000 → IsWord (link len j)
    link_word len j lt = either_word (nat_eq j len || nat_eq j 512) 0 (0xD000 + 12 * j) zero_fits (omega arith)

next_fits : (s : KernelState) (n : Option ℕ) → NextFits s n → length s.threads ≤ 16 → IsWord (next_word n)
next_fits s None h few = zero_fits
next_fits s (Some n) h few = omega (arith, h.0)

pub variables_words : (s : KernelState) → Valid s → StateInWords s → AllWords (variables s)
variables_words s v h = (omega (arith, v.current, v.threads_most), (next_fits s s.next v.next v.threads_most, (omega (arith, v.frames_most), (omega (arith, v.threads_most), (omega (arith, v.events_most), (h.random, (h.token, (h.errno, (omega (arith, v.line), (h.base, tt))))))))))

pub links_words : (len : ℕ) → len ≤ 512 → IsWord (link len 0) × IsWord (spare_link len)
links_words len few = (either_word (nat_eq 0 len || nat_eq 0 512) 0 (0xD000 + 12 * 0) zero_fits (omega arith), either_word (nat_eq len 512) 0 (0xD000 + 12 * len) zero_fits (omega arith))

pub word_of-fits : (s : KernelState) → Valid s → StateInWords s → (a : ℕ) → a < 0x10000 → IsWord (word_of s a)
unfolding word_of
word_of-fits s v h a up =
    let small : All SmallFrame s.frames = (λ k d lt. record { words = h.frames k d lt; elements = (v.frames k d lt).tasks.elements; lines = (v.frames k d lt).tasks.lines }) in
    let chains : All SmallChain s.chains = (λ k d lt. record { words = h.chains k d lt; few = (v.chains k d lt).few }) in
    let links = links_words (length s.heap.blocks) v.heap.few in
    either_word (nat_lt a 0xBC00) _ _ (look_word (thread_fields s.current ((a - 0xB000) / 0xC0) (slice_index_or s.threads ((a - 0xB000) / 0xC0) Free)) ((a - 0xB000) % 0xC0) (thread_words s.current ((a - 0xB000) / 0xC0) _ (at_any ThreadInWords Free s.threads ((a - 0xB000) / 0xC0) h.threads tt)))
    (either_word (nat_lt a 0xC300) _ _ (look_word (event_fields ((a - 0xBC00) / 0x1C) (slice_index_or s.events ((a - 0xBC00) / 0x1C) no_event)) ((a - 0xBC00) % 0x1C) (event_words ((a - 0xBC00) / 0x1C) _ (at_any EventInWords no_event s.events ((a - 0xBC00) / 0x1C) h.events no_event_words)))
    (either_word (nat_lt a 0xCF00) _ _ (frame_words (slice_index_or s.frames ((a - 0xC300) / 0x180) no_frame) ((a - 0xC300) % 0x180) (at_any SmallFrame no_frame s.frames ((a - 0xC300) / 0x180) small no_frame_small))
    (either_word (nat_lt a 0xD000) _ _ (chain_words (slice_index_or s.chains ((a - 0xCF00) / 0x40) []) ((a - 0xCF00) % 0x40) (at_any SmallChain [] s.chains ((a - 0xCF00) / 0x40) chains no_chain_small))
    (either_word (nat_lt a 0xE800) _ _ (heap_words s.heap.blocks a up h.sizes)
    (either_word (nat_lt a 0xEA00) _ _ (look_word (file_fields ((a - 0xE800) / 4) (slice_index_or s.files ((a - 0xE800) / 4) None)) ((a - 0xE800) % 4) (file_words ((a - 0xE800) / 4) _ (at_any FileFits None s.files ((a - 0xE800) / 4) v.files tt)))
    (either_word (nat_eq (a - 0xEA00) 0x40) _ _ links.0 (either_word (nat_eq (a - 0xEA00) 0x44) _ _ links.1 (look_word (variables s) (a - 0xEA00) (variables_words s v h)))))))))

-- ---- bytes

either_byte : (b : Bool) (x y : ℕ) → x < 2 ^ 8 → y < 2 ^ 8 → cond b x y < 2 ^ 8
either_byte true x y h k = h
either_byte false x y h k = k

put_byte-bytes : (m : Memory) (a v : ℕ) → v < 2 ^ 8 → InBytes m → InBytes (put_byte m a v)
put_byte-bytes m a v lt h b = subst (λ z. z < 2 ^ 8) (sym (byte-put_byte m a v b)) (either_byte (eqb b a) v (byte m b) lt (h b))

put_word-bytes : (m : Memory) (a v : ℕ) → IsWord v → InBytes m → InBytes (put_word m a v)
unfolding put_word
put_word-bytes m a v lt h =
    put_byte-bytes (put_byte (put_byte (put_byte m a (v % 2 ^ 8)) (a + 1) (v / 2 ^ 8 % 2 ^ 8)) (a + 2) (v / 2 ^ 16 % 2 ^ 8)) (a + 3) (v / 2 ^ 24) (omega arith)
    (put_byte-bytes (put_byte (put_byte m a (v % 2 ^ 8)) (a + 1) (v / 2 ^ 8 % 2 ^ 8)) (a + 2) (v / 2 ^ 16 % 2 ^ 8) (omega arith)
    (put_byte-bytes (put_byte m a (v % 2 ^ 8)) (a + 1) (v / 2 ^ 8 % 2 ^ 8) (omega arith)
    (put_byte-bytes m a (v % 2 ^ 8) (omega arith) h)))

fill-bytes : (from n : ℕ) (f : ℕ → ℕ) (m : Memory) → ((a : ℕ) → a < from + 4 * n → IsWord (f a)) → InBytes m → InBytes (fill from n f m)
unfolding fill
fill-bytes from zero f m w h = h
fill-bytes from (suc n) f m w h = put_word-bytes (fill from n f m) (from + 4 * n) (f (from + 4 * n)) (w (from + 4 * n) (omega arith)) (fill-bytes from n f m (λ a lt. w a (omega arith)) h)

put_bytes-bytes : (m : Memory) (a : ℕ) (xs : List ℕ) → All (λ (v : ℕ). v < 2 ^ 8) xs → InBytes m → InBytes (put_bytes m a xs)
unfolding put_bytes
put_bytes-bytes m a [] all h = h
put_bytes-bytes m a (x ∷ xs) all h = put_bytes-bytes (put_byte m a x) (a + 1) xs (others (λ (v : ℕ). v < 2 ^ 8) x xs all) (put_byte-bytes m a x (first (λ (v : ℕ). v < 2 ^ 8) x xs all) h)

pub made_memory-bytes : (s : KernelState) → Valid s → StateInWords s → (m : Memory) → InBytes m → InBytes (made_memory s m)
unfolding made_memory
made_memory-bytes s v words m h = put_bytes-bytes (fill 0xB000 0x1400 (word_of s) m) 0xE900 s.line words.line (fill-bytes 0xB000 0x1400 (word_of s) m (λ a lt. word_of-fits s v words a (omega arith)) h)

-- ---- the state at a program's begin

opening_words : (pc gp stack : ℕ) → IsWord pc → IsWord gp → IsWord stack → ContextInWords (opening pc gp stack)
opening_words pc gp stack a b c = record { registers = λ n. nth_word (registers (opening pc gp stack).context.regs) n (zero_fits, (zero_fits, (zero_fits, (zero_fits, (omega arith, (zero_fits, (zero_fits, (zero_fits, (zero_fits, (zero_fits, (zero_fits, (zero_fits, (zero_fits, (zero_fits, (zero_fits, (zero_fits, (zero_fits, (zero_fits, (zero_fits, (zero_fits, (zero_fits, (zero_fits, (zero_fits, (zero_fits, (zero_fits, (zero_fits, (a, (zero_fits, (b, (c, (c, (omega arith, tt)))))))))))))))))))))))))))))))); hi = zero_fits; lo = zero_fits; pc = a }

all_same : {X : Type 0} (P : X → Type 0) (n : ℕ) (x : X) → P x → All P (replicate n x)
all_same P n x h k d lt = subst P (sym (get_or-replicate n k x d (omega (arith, lt, length-replicate n x)))) h

no_more : {X : Type 0} (P : X → Type 0) → All P []
no_more P k d lt = absurd (omega arith)

pub start-words : StartsInWords
start-words pc gp stack m sizes a b c = record {
  threads = all_cons ThreadInWords (Used (opening pc gp stack)) (replicate (sizes.threads - 1) Free) (opening_words pc gp stack a b c) (all_same ThreadInWords (sizes.threads - 1) Free tt);
  events = all_same EventInWords sizes.events no_event no_event_words;
  frames = no_more FrameInWords;
  chains = let P = λ (es : List ℕ). All IsWord es in all_cons P [] ([] ∷ [] ∷ [] ∷ []) (no_more IsWord) (all_cons P [] ([] ∷ [] ∷ []) (no_more IsWord) (all_cons P [] ([] ∷ []) (no_more IsWord) (all_cons P [] [] (no_more IsWord) (no_more P))));
  base = zero_fits;
  sizes = no_more (λ (b : ℕ × Bool). IsWord b.0);
  random = zero_fits;
  token = zero_fits;
  errno = zero_fits;
  line = no_more (λ (v : ℕ). v < 2 ^ 8);
}
