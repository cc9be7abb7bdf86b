-- Bytes that are moved one by one, from the first to the last or from the last to the first.
use Rattle.std.proofs.Common.{◌≡◌, ℕ, zero, suc, ◌+◌, ◌-◌, ◌%◌, ◌^◌, ◌<◌, ◌≤◌, ◌++◌, inl, inr, [], ◌∷◌, length, true, refl, sym, ap, ◌∙◌, arith}
use Rattle.psx_base.specs.Addresses.{place, user}
use Rattle.psx_base.specs.Memory.{Memory, byte, put_byte, put_bytes}
use Rattle.psx_ram.proofs.Bytes.{put_byte-put_bytes_apart, put_bytes-append, byte-put_bytes_apart}
use Rattle.abs_kernel.specs.Memmove.{bytes_at, moved}
use Rattle.kern_stay.proofs.Tested.{Fine}

-- ---- places of a range of user memory

place_low : (a : ℕ) → user a ≡ true → place a ≡ a % 2 ^ 29
unfolding user
place_low a u = grind arith

low_few : (a : ℕ) → user a ≡ true → a % 2 ^ 29 < 0x1F800400
unfolding user
low_few a u = grind arith

pub place_first : (a n : ℕ) → 0 < n → Fine a n → place a ≡ a % 2 ^ 29
place_first a n some f = let e : a ≡ a + 0 = omega arith in place_low a (ap user e ∙ f.good 0 some)

pub place_at : (a n i : ℕ) → i < n → Fine a n → place (a + i) ≡ place a + i
place_at a n i lt f =
    let e : a ≡ a + 0 = omega arith in
    let few = low_few a (ap user e ∙ f.good 0 (omega arith)) in
    let sum : (a + i) % 2 ^ 29 ≡ a % 2 ^ 29 + i = omega (arith, few, f.few) in
    place_low (a + i) (f.good i lt) ∙ sum ∙ ap (λ x. x + i) (sym (place_first a n (omega arith) f))

-- ---- the bytes that are moved, with one more

pub length-bytes_at : (n : ℕ) (m : Memory) (at : ℕ) → length (bytes_at n m at) ≡ n
length-bytes_at zero m at = refl
length-bytes_at (suc n) m at = ap suc (length-bytes_at n m (at + 1))

bytes_behind : (n : ℕ) (m : Memory) (at : ℕ) → bytes_at (suc n) m at ≡ bytes_at n m at ++ (byte m (at + n) % 2 ^ 8 ∷ [])
bytes_behind zero m at = let e : at ≡ at + 0 = omega arith in ap (λ a. byte m a % 2 ^ 8 ∷ []) e
bytes_behind (suc n) m at =
    let e : at + 1 + n ≡ at + suc n = omega arith in
    ap (λ xs. byte m at % 2 ^ 8 ∷ xs) (bytes_behind n m (at + 1)) ∙ ap (λ a. byte m at % 2 ^ 8 ∷ (bytes_at n m (at + 1) ++ (byte m a % 2 ^ 8 ∷ []))) e

pub moved_behind : (n : ℕ) (m : Memory) (to from : ℕ) → put_byte (moved n m to from) (to + n) (byte m (from + n) % 2 ^ 8) ≡ moved (suc n) m to from
unfolding put_bytes
moved_behind n m to from =
    let b : ℕ = byte m (from + n) % 2 ^ 8 in
    ap (λ k. put_byte (moved n m to from) (to + k) b) (sym (length-bytes_at n m from))
    ∙ sym (put_bytes-append m to (bytes_at n m from) (b ∷ []))
    ∙ ap (put_bytes m to) (sym (bytes_behind n m from))

pub moved_before : (n : ℕ) (m : Memory) (to from : ℕ) → put_byte (moved n m (to + 1) (from + 1)) to (byte m from % 2 ^ 8) ≡ moved (suc n) m to from
unfolding put_bytes
moved_before n m to from = put_byte-put_bytes_apart m (to + 1) (bytes_at n m (from + 1)) to (byte m from % 2 ^ 8) (inl (omega arith))

-- a byte that isn't among them
pub unmoved_behind : (n : ℕ) (m : Memory) (to from a : ℕ) → to + n ≤ a → byte (moved n m to from) a ≡ byte m a
unmoved_behind n m to from a le = byte-put_bytes_apart m to (bytes_at n m from) a (inr (omega (arith, length-bytes_at n m from)))

pub unmoved_before : (n : ℕ) (m : Memory) (to from a : ℕ) → a < to → byte (moved n m to from) a ≡ byte m a
unmoved_before n m to from a lt = byte-put_bytes_apart m to (bytes_at n m from) a (inl lt)

-- ---- a loop that moves n bytes one by one

-- With k bytes to come there are an index that comes next, an address for each pointer, which is moved by a step, and the memory so far.
pub record Course (m : Memory) (to from n step : ℕ) : Type 0 where
  pub index : ℕ → ℕ
  pub cursor : (a k : ℕ) → ℕ
  pub memory : ℕ → Memory
  pub all : memory 0 ≡ moved n m to from
  pub inside : (k : ℕ) → 0 < k → k ≤ n → index k < n
  pub reads : (k : ℕ) → 0 < k → k ≤ n → byte (memory k) (from + index k) ≡ byte m (from + index k)
  pub writes : (k : ℕ) → 0 < k → k ≤ n → put_byte (memory k) (to + index k) (byte m (from + index k) % 2 ^ 8) ≡ memory (k - 1)
  pub stands : (a k : ℕ) → a + n < 2 ^ 32 → 0 < k → k ≤ n → cursor a k ≡ a + index k
  pub moves : (a k : ℕ) → a + n < 2 ^ 32 → 0 < k → k ≤ n → (cursor a k + step) % 2 ^ 32 ≡ cursor a (k - 1)
  pub ends : (a k : ℕ) → a + n < 2 ^ 32 → 0 < k → k ≤ n → cursor a k ≡ cursor a 0 → ⊥

-- from the first to the last, where the destination isn't behind the source
abbrev pub rising : (m : Memory) (to from n : ℕ) → to ≤ from → Course m to from n 1
rising m to from n le = record {
  index = λ k. n - k;
  cursor = λ a k. a + (n - k);
  memory = λ k. moved (n - k) m to from;
  all = (let e : n - 0 ≡ n = omega arith in ap (λ c. moved c m to from) e);
  inside = λ k some few. omega arith;
  reads = λ k some few. unmoved_behind (n - k) m to from (from + (n - k)) (omega arith);
  writes = λ k some few. (let e : suc (n - k) ≡ n - (k - 1) = omega arith in moved_behind (n - k) m to from ∙ ap (λ c. moved c m to from) e);
  stands = λ a k fits some few. refl;
  moves = λ a k fits some few. omega arith;
  ends = λ a k fits some few e. omega (arith, e);
}

-- and from the last to the first, where it isn't before it
abbrev pub falling : (m : Memory) (to from n : ℕ) → from ≤ to → Course m to from n 0xFFFFFFFF
falling m to from n le = record {
  index = λ k. k - 1;
  cursor = λ a k. (a + k + 0xFFFFFFFF) % 2 ^ 32;
  memory = λ k. moved (n - k) m (to + k) (from + k);
  all = (let e : n - 0 ≡ n = omega arith in let f : to + 0 ≡ to = omega arith in let g : from + 0 ≡ from = omega arith in λ i. moved (e i) m (f i) (g i));
  inside = λ k some few. omega arith;
  reads = λ k some few. unmoved_before (n - k) m (to + k) (from + k) (from + (k - 1)) (omega arith);
  writes = λ k some few. (
      let e : to + k ≡ to + (k - 1) + 1 = omega arith in
      let f : from + k ≡ from + (k - 1) + 1 = omega arith in
      let g : suc (n - k) ≡ n - (k - 1) = omega arith in
      (λ i. put_byte (moved (n - k) m (e i) (f i)) (to + (k - 1)) (byte m (from + (k - 1)) % 2 ^ 8))
      ∙ moved_before (n - k) m (to + (k - 1)) (from + (k - 1)) ∙ ap (λ c. moved c m (to + (k - 1)) (from + (k - 1))) g
      );
  stands = λ a k fits some few. omega arith;
  moves = λ a k fits some few. omega arith;
  ends = λ a k fits some few e. omega (arith, e);
}
