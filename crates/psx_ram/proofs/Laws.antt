-- What a byte, a half and a word read after a write.
use Rattle.std.proofs.Common.{◌≡◌, ℕ, ◌+◌, ◌*◌, ◌/◌, ◌%◌, ◌^◌, ◌<◌, ◌≤◌, Bool, true, false, cond, eqb, Some, refl, ap, ◌∙◌, arith, unwrap_or}
use Rattle.std.specs.Prelude.{Option, ◌⊎◌}
use Rattle.std.proofs.lemmas.Bool.{eq-eqb, ne_eqb}
use Rattle.std.specs.Ordering.{nat_cmp, eq_by_cmp}
use Rattle.std.specs.Cmp.{nat_cmp_total}
use Rattle.std.specs.FinMap as map
use Rattle.psx_base.specs.Memory.{Memory, byte, put_byte, half, word, put_half, put_word}
use Rattle.psx_ram.specs.Apart.{apart}
use Rattle.psx_ram.proofs.FourBytes.{word_by_bytes}

turned : (b : Bool) (v : ℕ) (o : Option ℕ) → unwrap_or (cond b (Some v) o) 0 ≡ cond b v (unwrap_or o 0)
turned true v o = refl
turned false v o = refl

pub eq_by_nat_cmp : (b a : ℕ) → eq_by_cmp nat_cmp b a ≡ eqb b a
eq_by_nat_cmp b a = grind arith

apart_cases : (a len b size : ℕ) → apart a len b size ≡ true → (a + len ≤ b) ⊎ (b + size ≤ a)
apart_cases a len b size h = grind arith

-- the same for one byte, the other way round
pub outside_cases : (a len b : ℕ) → apart a len b 1 ≡ true → (b < a) ⊎ (a + len ≤ b)
outside_cases a len b h = grind arith

-- ---- bytes

pub byte-put_byte : (m : Memory) (a v b : ℕ) → byte (put_byte m a v) b ≡ cond (eqb b a) v (byte m b)
unfolding byte put_byte
byte-put_byte m a v b = rw (map.get-insert nat_cmp_total m a v b, eq_by_nat_cmp b a) (turned (eqb b a) v (map.get m b))

pub byte-put_byte_same : (m : Memory) (a v : ℕ) → byte (put_byte m a v) a ≡ v
byte-put_byte_same m a v = byte-put_byte m a v a ∙ ap (λ t. cond t v (byte m a)) (eq-eqb a a refl)

pub byte-put_byte_apart : (m : Memory) (a v b : ℕ) → ¬ (b ≡ a) → byte (put_byte m a v) b ≡ byte m b
byte-put_byte_apart m a v b h = byte-put_byte m a v b ∙ ap (λ t. cond t v (byte m b)) (ne_eqb b a h)

-- ---- halves

pub byte-put_half_apart : (m : Memory) (a v b : ℕ) → apart a 2 b 1 ≡ true → byte (put_half m a v) b ≡ byte m b
unfolding put_half
byte-put_half_apart m a v b h =
    let c = apart_cases a 2 b 1 h in
    byte-put_byte_apart (put_byte m a (v % 2 ^ 8)) (a + 1) (v / 2 ^ 8) b (omega arith)
    ∙ byte-put_byte_apart m a (v % 2 ^ 8) b (omega arith)

bytes_of_half : (v : ℕ) → v % 2 ^ 8 + v / 2 ^ 8 * 2 ^ 8 ≡ v
bytes_of_half v = omega arith

pub half-put_half_same : (m : Memory) (a v : ℕ) → half (put_half m a v) a ≡ v
unfolding half put_half
half-put_half_same m a v =
    let m0 = put_byte m a (v % 2 ^ 8) in
    let m1 = put_byte m0 (a + 1) (v / 2 ^ 8) in
    let p0 : byte m1 a ≡ v % 2 ^ 8 = byte-put_byte_apart m0 (a + 1) (v / 2 ^ 8) a (omega arith) ∙ byte-put_byte_same m a (v % 2 ^ 8) in
    let p1 : byte m1 (a + 1) ≡ v / 2 ^ 8 = byte-put_byte_same m0 (a + 1) (v / 2 ^ 8) in
    (λ i. p0 i + p1 i * 2 ^ 8) ∙ bytes_of_half v

pub half-put_byte_apart : (m : Memory) (a v b : ℕ) → apart a 1 b 2 ≡ true → half (put_byte m a v) b ≡ half m b
unfolding half
half-put_byte_apart m a v b h =
    let c = apart_cases a 1 b 2 h in
    let p0 = byte-put_byte_apart m a v b (omega arith) in
    let p1 = byte-put_byte_apart m a v (b + 1) (omega arith) in
    λ i. p0 i + p1 i * 2 ^ 8

pub half-put_half_apart : (m : Memory) (a v b : ℕ) → apart a 2 b 2 ≡ true → half (put_half m a v) b ≡ half m b
unfolding half
half-put_half_apart m a v b h =
    let p0 = byte-put_half_apart m a v b (grind arith) in
    let p1 = byte-put_half_apart m a v (b + 1) (grind arith) in
    λ i. p0 i + p1 i * 2 ^ 8

pub word-put_half_apart : (m : Memory) (a v b : ℕ) → apart a 2 b 4 ≡ true → word (put_half m a v) b ≡ word m b
unfolding word
word-put_half_apart m a v b h =
    let p0 = byte-put_half_apart m a v b (grind arith) in
    let p1 = byte-put_half_apart m a v (b + 1) (grind arith) in
    let p2 = byte-put_half_apart m a v (b + 2) (grind arith) in
    let p3 = byte-put_half_apart m a v (b + 3) (grind arith) in
    λ i. p0 i + p1 i * 2 ^ 8 + p2 i * 2 ^ 16 + p3 i * 2 ^ 24

-- ---- words

pub byte-put_word_apart : (m : Memory) (a v b : ℕ) → apart a 4 b 1 ≡ true → byte (put_word m a v) b ≡ byte m b
unfolding put_word
byte-put_word_apart m a v b h =
    let c = apart_cases a 4 b 1 h in
    byte-put_byte_apart (put_byte (put_byte (put_byte m a (v % 2 ^ 8)) (a + 1) (v / 2 ^ 8 % 2 ^ 8)) (a + 2) (v / 2 ^ 16 % 2 ^ 8)) (a + 3) (v / 2 ^ 24) b (omega arith)
    ∙ byte-put_byte_apart (put_byte (put_byte m a (v % 2 ^ 8)) (a + 1) (v / 2 ^ 8 % 2 ^ 8)) (a + 2) (v / 2 ^ 16 % 2 ^ 8) b (omega arith)
    ∙ byte-put_byte_apart (put_byte m a (v % 2 ^ 8)) (a + 1) (v / 2 ^ 8 % 2 ^ 8) b (omega arith)
    ∙ byte-put_byte_apart m a (v % 2 ^ 8) b (omega arith)

pub half-put_word_apart : (m : Memory) (a v b : ℕ) → apart a 4 b 2 ≡ true → half (put_word m a v) b ≡ half m b
unfolding half
half-put_word_apart m a v b h =
    let p0 = byte-put_word_apart m a v b (grind arith) in
    let p1 = byte-put_word_apart m a v (b + 1) (grind arith) in
    λ i. p0 i + p1 i * 2 ^ 8

pub word-put_word_apart : (m : Memory) (a v b : ℕ) → apart a 4 b 4 ≡ true → word (put_word m a v) b ≡ word m b
word-put_word_apart m a v b h =
    let kept : (q : ℕ) → apart a 4 q 1 ≡ true → byte (put_word m a v) q ≡ byte m q = byte-put_word_apart m a v in
    word_by_bytes (put_word m a v) m b b (kept b (grind arith)) (kept (b + 1) (grind arith)) (kept (b + 2) (grind arith)) (kept (b + 3) (grind arith))

pub word-put_byte_apart : (m : Memory) (a v b : ℕ) → apart a 1 b 4 ≡ true → word (put_byte m a v) b ≡ word m b
word-put_byte_apart m a v b h =
    let c = apart_cases a 1 b 4 h in
    let kept : (q : ℕ) → ¬ (q ≡ a) → byte (put_byte m a v) q ≡ byte m q = byte-put_byte_apart m a v in
    word_by_bytes (put_byte m a v) m b b (kept b (omega arith)) (kept (b + 1) (omega arith)) (kept (b + 2) (omega arith)) (kept (b + 3) (omega arith))

bytes_of_word : (v : ℕ) → v % 2 ^ 8 + v / 2 ^ 8 % 2 ^ 8 * 2 ^ 8 + v / 2 ^ 16 % 2 ^ 8 * 2 ^ 16 + v / 2 ^ 24 * 2 ^ 24 ≡ v
bytes_of_word v = omega arith

pub word-put_word_same : (m : Memory) (a v : ℕ) → word (put_word m a v) a ≡ v
unfolding word put_word
word-put_word_same m a v =
    let m0 = put_byte m a (v % 2 ^ 8) in
    let m1 = put_byte m0 (a + 1) (v / 2 ^ 8 % 2 ^ 8) in
    let m2 = put_byte m1 (a + 2) (v / 2 ^ 16 % 2 ^ 8) in
    let m3 = put_byte m2 (a + 3) (v / 2 ^ 24) in
    let p0 : byte m3 a ≡ v % 2 ^ 8 = byte-put_byte_apart m2 (a + 3) (v / 2 ^ 24) a (omega arith) ∙ byte-put_byte_apart m1 (a + 2) (v / 2 ^ 16 % 2 ^ 8) a (omega arith) ∙ byte-put_byte_apart m0 (a + 1) (v / 2 ^ 8 % 2 ^ 8) a (omega arith) ∙ byte-put_byte_same m a (v % 2 ^ 8) in
    let p1 : byte m3 (a + 1) ≡ v / 2 ^ 8 % 2 ^ 8 = byte-put_byte_apart m2 (a + 3) (v / 2 ^ 24) (a + 1) (omega arith) ∙ byte-put_byte_apart m1 (a + 2) (v / 2 ^ 16 % 2 ^ 8) (a + 1) (omega arith) ∙ byte-put_byte_same m0 (a + 1) (v / 2 ^ 8 % 2 ^ 8) in
    let p2 : byte m3 (a + 2) ≡ v / 2 ^ 16 % 2 ^ 8 = byte-put_byte_apart m2 (a + 3) (v / 2 ^ 24) (a + 2) (omega arith) ∙ byte-put_byte_same m1 (a + 2) (v / 2 ^ 16 % 2 ^ 8) in
    let p3 : byte m3 (a + 3) ≡ v / 2 ^ 24 = byte-put_byte_same m2 (a + 3) (v / 2 ^ 24) in
    (λ i. p0 i + p1 i * 2 ^ 8 + p2 i * 2 ^ 16 + p3 i * 2 ^ 24) ∙ bytes_of_word v
