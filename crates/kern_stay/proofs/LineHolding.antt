-- What stores to the line of gets make of the state that a memory stands for, while the kernel runs.
use Rattle.std.proofs.Common.{◌≡◌, ℕ, ◌+◌, ◌%◌, ◌^◌, ◌<◌, ◌≤◌, List, ◌∷◌, [], ◌++◌, length, inr, true, ◌∙◌, arith, refl}
use Rattle.psx_base.specs.Memory.{Memory, byte, word, put_byte, put_word}
use Rattle.psx_base.specs.Addresses.{place, user}
use Rattle.psx_base.specs.KernelState.{KernelState}
use Rattle.psx_ram.specs.Apart.{apart}
use Rattle.psx_ram.proofs.Laws.{byte-put_byte_apart, byte-put_word_apart, word-put_byte_apart, word-put_word_same}
use Rattle.psx_flow.proofs.Log.{Kernel, byte_sort}
use Rattle.kern_layout.specs.Contexts.{saved}
use Rattle.kern_layout.specs.Reads.{LineAt}
use Rattle.kern_layout.specs.Valid.{Valid}
use Rattle.kern_layout.proofs.Blocks.{block_same, put_other}
use Rattle.kern_layout.proofs.MemoryStored.{word_stored, line_kept, byte_stored}
use Rattle.kern_layout.proofs.Moved.{reads_line, line_more}
use Rattle.kern_stay.specs.Doors.{Holds}
use Rattle.kern_stay.proofs.Holding.{user_high, place_high}

-- ---- a byte of the line, by its address in the cached segment

pub record LineByte (a k : ℕ) : Type 0 where
  pub here : (a + 0) % 2 ^ 32 ≡ a
  pub sort : byte_sort a ≡ Kernel
  pub place : place a ≡ 0xE900 + k

line_place : (k : ℕ) → k < 0x100 → place (0x8000E900 + k) ≡ 0xE900 + k
line_place k h = grind arith

line_sort : (k : ℕ) → k < 0x100 → byte_sort (0x8000E900 + k) ≡ Kernel
line_sort k h = grind arith

pub line_byte : (k : ℕ) → k < 0x100 → LineByte (0x8000E900 + k) k
line_byte k h = record { here = omega arith; sort = line_sort k h; place = line_place k h }

-- ---- what is stored

apart_behind : (k a : ℕ) → k < 0x100 → 0xEA00 ≤ a → apart (0xE900 + k) 1 a 4 ≡ true
apart_behind k a few lo = grind arith

apart_over : (a : ℕ) → 0x10000 ≤ a → apart 0xEA20 4 a 1 ≡ true
apart_over a h = grind arith

-- a byte behind the line is no part of the state
pub holds_behind_line : (s : KernelState) → Valid s → (m : Memory) → Holds s m → (k v : ℕ) → length s.line ≤ k → k < 0x100 → Holds s (put_byte m (0xE900 + k) v)
holds_behind_line s valid m h k v low few =
    let n : Memory = put_byte m (0xE900 + k) v in
    let b = byte_stored m k v few in
    record {
      settled = h.settled;
      area = block_same (word m) (word n) 0xEB00 0 0x98 (saved s.running) refl refl (λ a al lo up. word-put_byte_apart m (0xE900 + k) v a (apart_behind k a few (omega (arith, lo)))) h.area;
      reads = reads_line s valid (word m) (word n) (byte m) (byte n) s.line b.before
          (λ a al lo up. b.behind a al lo (omega (arith, up))) (λ a al lo up. b.behind a al (omega (arith, lo)) up)
          (b.behind 0xEA20 refl (omega arith) (omega arith) ∙ h.reads.variables.1.1.1.1.1.1.1.1.0)
          (λ j lt. b.others (0xE900 + j) (λ e. omega (arith, e, lt, low)) ∙ h.reads.line j lt) h.reads;
      user = λ a u. (let high = user_high a u in byte-put_byte_apart m (0xE900 + k) v a (λ e. omega (arith, e, high, few))) ∙ h.user a u;
    }

-- the length of another line, whose bytes are there, is stored
pub holds_line : (s : KernelState) → Valid s → (m : Memory) → Holds s m → (line : List ℕ) → length line ≤ 0x100 → LineAt (byte m) line
    → Holds (record s { line = line }) (put_word m 0xEA20 (length line))
holds_line s valid m h line few new =
    let v : ℕ = length line in
    let n : Memory = put_word m 0xEA20 v in
    let other : (a : ℕ) → a % 4 ≡ 0 → (a ≡ 0xEA20 → ⊥) → word n a ≡ word m a = λ a al ne. word_stored m 0xEA20 v a refl al ∙ put_other (word m) 0xEA20 v a ne in
    record {
      settled = h.settled;
      area = block_same (word m) (word n) 0xEB00 0 0x98 (saved s.running) refl refl (λ a al lo up. other a al (λ e. omega (arith, e, lo))) h.area;
      reads = reads_line s valid (word m) (word n) (byte m) (byte n) line (λ a al lo up. other a al (λ e. omega (arith, e, up)))
          (λ a al lo up. other a al (λ e. omega (arith, e, up))) (λ a al lo up. other a al (λ e. omega (arith, e, lo)))
          (word-put_word_same m 0xEA20 v)
          (λ j lt. line_kept m 0xEA20 v (inr (omega arith)) (0xE900 + j) (omega arith) (omega (arith, lt, few)) ∙ new j lt) h.reads;
      user = λ a u. (let high = user_high a u in byte-put_word_apart m 0xEA20 v a (apart_over a high)) ∙ h.user a u;
    }

-- ---- the bytes that stand there

-- one more
pub line_longer : (m : Memory) (line : List ℕ) (v : ℕ) → length line < 0x100 → LineAt (byte m) line → LineAt (byte (put_byte m (0xE900 + length line) v)) (line ++ v ∷ [])
line_longer m line v few old =
    let b = byte_stored m (length line) v few in
    line_more (byte m) (byte (put_byte m (0xE900 + length line) v)) line v (λ a lo up. b.others a (λ e. omega (arith, e, up))) b.stored old

-- the same ones, where a word or a byte of user memory is stored
pub line_past_word : (m : Memory) (line : List ℕ) (v : ℕ) → length line ≤ 0x100 → LineAt (byte m) line → LineAt (byte (put_word m 0xEA20 v)) line
line_past_word m line v few old = λ j lt. line_kept m 0xEA20 v (inr (omega arith)) (0xE900 + j) (omega arith) (omega (arith, lt, few)) ∙ old j lt

pub line_past_user : (m : Memory) (at v j : ℕ) → user at ≡ true → j < 0x100 → byte (put_byte m (place at) v) (0xE900 + j) ≡ byte m (0xE900 + j)
line_past_user m at v j u few = let high = place_high at u in byte-put_byte_apart m (place at) v (0xE900 + j) (λ e. omega (arith, e, few, high))
