-- Bytes that are put one after the other: what is read afterwards, and how such writes combine.
use Rattle.std.proofs.Common.{◌≡◌, ℕ, zero, suc, ◌+◌, ◌-◌, ◌<◌, ◌≤◌, Bool, true, false, cond, List, [], ◌∷◌, ◌++◌, length, get_or, set, take, Some, refl, ap, sym, ◌∙◌, arith, inl, inr}
use Rattle.std.specs.Prelude.{Option, ◌⊎◌, replicate}
use Rattle.std.proofs.lemmas.Bool.{cases_eq}
use Rattle.std.proofs.lemmas.List.{take_more, length-take-le, length-replicate}
use Rattle.std.proofs.lemmas.Grind.{replicate_next}
use Rattle.std.specs.Ordering.{nat_cmp, eq_by_cmp}
use Rattle.std.specs.Cmp.{nat_cmp_total}
use Rattle.std.specs.FinMap as map
use Rattle.std.specs.FinMap.{nat_cmp-IsAntisymmetric}
use Rattle.psx_base.specs.Memory.{Memory, byte, word, put_byte, put_bytes}
use Rattle.psx_ram.specs.Apart.{apart}
use Rattle.psx_ram.specs.Words.{word_at}
use Rattle.psx_ram.proofs.FourBytes.{word_by_bytes, word_of}
use Rattle.psx_ram.proofs.Laws.{outside_cases, byte-put_byte_same, byte-put_byte_apart}

-- ---- two writes of a byte

again : (s : Bool) (v w : ℕ) (o : Option ℕ) → cond s (Some w) (cond s (Some v) o) ≡ cond s (Some w) o
again true v w o = refl
again false v w o = refl

-- the later write at an address is the one that counts
pub put_byte_again : (m : Memory) (a v w : ℕ) → put_byte (put_byte m a v) a w ≡ put_byte m a w
unfolding put_byte
put_byte_again m a v w =
    map.same_map nat_cmp_total nat_cmp-IsAntisymmetric _ _ (λ q.
    map.get-insert nat_cmp_total (map.insert m a v) a w q
    ∙ ap (cond (eq_by_cmp nat_cmp q a) (Some w)) (map.get-insert nat_cmp_total m a v q)
    ∙ again (eq_by_cmp nat_cmp q a) v w (map.get m q)
    ∙ sym (map.get-insert nat_cmp_total m a w q))

-- writes at two addresses, in either order
swapped : (s t : Bool) (v w : ℕ) (o : Option ℕ) → (s ≡ true → t ≡ false) → cond t (Some w) (cond s (Some v) o) ≡ cond s (Some v) (cond t (Some w) o)
swapped true t v w o h = ap (λ k. cond k (Some w) (Some v)) (h refl)
swapped false t v w o h = refl

pub put_byte_swap : (m : Memory) (a b v w : ℕ) → ¬ (a ≡ b) → put_byte (put_byte m a v) b w ≡ put_byte (put_byte m b w) a v
unfolding put_byte
put_byte_swap m a b v w n =
    map.same_map nat_cmp_total nat_cmp-IsAntisymmetric _ _ (λ q.
    map.get-insert nat_cmp_total (map.insert m a v) b w q
    ∙ ap (cond (eq_by_cmp nat_cmp q b) (Some w)) (map.get-insert nat_cmp_total m a v q)
    ∙ swapped (eq_by_cmp nat_cmp q a) (eq_by_cmp nat_cmp q b) v w (map.get m q) (one_only q)
    ∙ ap (cond (eq_by_cmp nat_cmp q a) (Some v)) (sym (map.get-insert nat_cmp_total m b w q))
    ∙ sym (map.get-insert nat_cmp_total (map.insert m b w) a v q))
  where
    one_only : (q : ℕ) → eq_by_cmp nat_cmp q a ≡ true → eq_by_cmp nat_cmp q b ≡ false
    one_only q h = grind arith

-- ---- writes of many

-- a byte outside the range may be put before or after
pub put_byte-put_bytes_apart : (m : Memory) (a : ℕ) (xs : List ℕ) (b v : ℕ) → (b < a) ⊎ (a + length xs ≤ b)
    → put_byte (put_bytes m a xs) b v ≡ put_bytes (put_byte m b v) a xs
unfolding put_bytes
put_byte-put_bytes_apart m a [] b v h = refl
put_byte-put_bytes_apart m a (x ∷ xs) b v h =
    put_byte-put_bytes_apart (put_byte m a x) (a + 1) xs b v (go h)
    ∙ ap (λ k. put_bytes k (a + 1) xs) (put_byte_swap m a b x v (differ h))
  where
    go : (b < a) ⊎ (a + length (x ∷ xs) ≤ b) → (b < a + 1) ⊎ (a + 1 + length xs ≤ b)
    go (inl l) = inl (omega arith)
    go (inr l) = inr (omega arith)

    differ : (b < a) ⊎ (a + length (x ∷ xs) ≤ b) → ¬ (a ≡ b)
    differ (inl l) e = omega arith
    differ (inr l) e = omega arith

pub put_bytes-append : (m : Memory) (a : ℕ) (xs ys : List ℕ) → put_bytes m a (xs ++ ys) ≡ put_bytes (put_bytes m a xs) (a + length xs) ys
unfolding put_bytes
put_bytes-append m a [] ys = ap (λ k. put_bytes m k ys) {x = a} {y = a + 0} (omega arith)
put_bytes-append m a (x ∷ xs) ys =
    put_bytes-append (put_byte m a x) (a + 1) xs ys
    ∙ ap (λ k. put_bytes (put_bytes (put_byte m a x) (a + 1) xs) k ys) {x = a + 1 + length xs} {y = a + length (x ∷ xs)} (omega arith)

-- a byte that replaces one of the range
pub put_bytes-set : (m : Memory) (a : ℕ) (xs : List ℕ) (i v : ℕ) → i < length xs → put_bytes m a (set xs i v) ≡ put_byte (put_bytes m a xs) (a + i) v
unfolding put_bytes
put_bytes-set m a [] i v h = absurd (omega arith)
put_bytes-set m a (x ∷ xs) zero v h =
    ap (λ k. put_bytes k (a + 1) xs) (sym (put_byte_again m a x v))
    ∙ sym (put_byte-put_bytes_apart (put_byte m a x) (a + 1) xs a v (inl (omega arith)))
    ∙ ap (λ k. put_byte (put_bytes (put_byte m a x) (a + 1) xs) k v) {x = a} {y = a + 0} (omega arith)
put_bytes-set m a (x ∷ xs) (suc i) v h =
    put_bytes-set (put_byte m a x) (a + 1) xs i v (omega arith)
    ∙ ap (λ k. put_byte (put_bytes (put_byte m a x) (a + 1) xs) k v) {x = a + 1 + i} {y = a + suc i} (omega arith)

pub byte-put_bytes_apart : (m : Memory) (a : ℕ) (xs : List ℕ) (b : ℕ) → (b < a) ⊎ (a + length xs ≤ b) → byte (put_bytes m a xs) b ≡ byte m b
unfolding put_bytes
byte-put_bytes_apart m a [] b h = refl
byte-put_bytes_apart m a (x ∷ xs) b h =
    byte-put_bytes_apart (put_byte m a x) (a + 1) xs b (go h) ∙ byte-put_byte_apart m a x b (differ h)
  where
    go : (b < a) ⊎ (a + length (x ∷ xs) ≤ b) → (b < a + 1) ⊎ (a + 1 + length xs ≤ b)
    go (inl l) = inl (omega arith)
    go (inr l) = inr (omega arith)

    differ : (b < a) ⊎ (a + length (x ∷ xs) ≤ b) → ¬ (b ≡ a)
    differ (inl l) e = omega arith
    differ (inr l) e = omega arith

pub byte-put_bytes : (m : Memory) (a : ℕ) (xs : List ℕ) (b : ℕ) → a ≤ b → b < a + length xs → byte (put_bytes m a xs) b ≡ get_or xs (b - a) 0
unfolding put_bytes
byte-put_bytes m a [] b l h = absurd (omega arith)
byte-put_bytes m a (x ∷ xs) b l h = go (cases_eq b a) (λ (n : b ≡ a → ⊥). byte-put_bytes (put_byte m a x) (a + 1) xs b (omega arith) (omega arith))
  where
    go : (b ≡ a) ⊎ (b ≡ a → ⊥) → ((b ≡ a → ⊥) → byte (put_bytes (put_byte m a x) (a + 1) xs) b ≡ get_or xs (b - (a + 1)) 0)
        → byte (put_bytes (put_byte m a x) (a + 1) xs) b ≡ get_or (x ∷ xs) (b - a) 0
    go (inl e) ih =
        byte-put_bytes_apart (put_byte m a x) (a + 1) xs b (inl (omega arith))
        ∙ ap (byte (put_byte m a x)) e ∙ byte-put_byte_same m a x
        ∙ ap (λ k. get_or (x ∷ xs) k 0) {x = 0} {y = b - a} (omega arith)
    go (inr n) ih = ih n ∙ ap (λ k. get_or (x ∷ xs) k 0) {x = suc (b - (a + 1))} {y = b - a} (omega arith)

-- the byte at an index of the range
pub byte-put_bytes_at : (m : Memory) (a : ℕ) (xs : List ℕ) (k : ℕ) → k < length xs → byte (put_bytes m a xs) (a + k) ≡ get_or xs k 0
byte-put_bytes_at m a xs k h =
    byte-put_bytes m a xs (a + k) (omega arith) (omega arith) ∙ ap (λ i. get_or xs i 0) {x = a + k - a} {y = k} (omega arith)

-- the number of four bytes of the range
pub word-put_bytes_at : (m : Memory) (a : ℕ) (xs : List ℕ) (k : ℕ) → k + 4 ≤ length xs → word (put_bytes m a xs) (a + k) ≡ word_at xs k
word-put_bytes_at m a xs k h =
    let at : (q i : ℕ) → q ≡ a + i → i < length xs → byte (put_bytes m a xs) q ≡ get_or xs i 0
    = λ q i e l. ap (byte (put_bytes m a xs)) e ∙ byte-put_bytes_at m a xs i l in
    sym (word_of (put_bytes m a xs) (a + k) xs k (at (a + k) k refl (omega arith)) (at (a + k + 1) (k + 1) (omega arith) (omega arith))
    (at (a + k + 2) (k + 2) (omega arith) (omega arith)) (at (a + k + 3) (k + 3) (omega arith) (omega arith)))

pub word-put_bytes_apart : (m : Memory) (a : ℕ) (xs : List ℕ) (b : ℕ) → apart a (length xs) b 4 ≡ true → word (put_bytes m a xs) b ≡ word m b
word-put_bytes_apart m a xs b h =
    let kept : (q : ℕ) → apart a (length xs) q 1 ≡ true → byte (put_bytes m a xs) q ≡ byte m q
    = λ q o. byte-put_bytes_apart m a xs q (outside_cases a (length xs) q o) in
    word_by_bytes (put_bytes m a xs) m b b (kept b (grind arith)) (kept (b + 1) (grind arith)) (kept (b + 2) (grind arith)) (kept (b + 3) (grind arith))

-- ---- the steps of a loop that puts bytes

pub put_bytes-nil : (m : Memory) (a : ℕ) → put_bytes m a [] ≡ m
unfolding put_bytes
put_bytes-nil m a = refl

pub put_bytes-snoc : (m : Memory) (a : ℕ) (xs : List ℕ) (v : ℕ) → put_bytes m a (xs ++ v ∷ []) ≡ put_byte (put_bytes m a xs) (a + length xs) v
unfolding put_bytes
put_bytes-snoc m a xs v = put_bytes-append m a xs (v ∷ [])

pub put_bytes-take_more : (m : Memory) (a : ℕ) (xs : List ℕ) (i : ℕ) → i < length xs
    → put_bytes m a (take (i + 1) xs) ≡ put_byte (put_bytes m a (take i xs)) (a + i) (get_or xs i 0)
put_bytes-take_more m a xs i h =
    ap (put_bytes m a) (take_more xs i 0 h) ∙ put_bytes-snoc m a (take i xs) (get_or xs i 0)
    ∙ ap (λ k. put_byte (put_bytes m a (take i xs)) (a + k) (get_or xs i 0)) (length-take-le i xs (omega arith))

pub put_bytes-replicate_more : (m : Memory) (a i v : ℕ) → put_bytes m a (replicate (i + 1) v) ≡ put_byte (put_bytes m a (replicate i v)) (a + i) v
put_bytes-replicate_more m a i v =
    ap (put_bytes m a) (replicate_next i v) ∙ put_bytes-snoc m a (replicate i v) v
    ∙ ap (λ k. put_byte (put_bytes m a (replicate i v)) (a + k) v) (length-replicate i v)
