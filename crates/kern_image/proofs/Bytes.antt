-- Words as bytes, one after the other.
use Rattle.std.proofs.Common.{◌≡◌, ℕ, zero, suc, ◌+◌, ◌*◌, ◌/◌, ◌%◌, ◌^◌, ◌<◌, List, [], ◌∷◌, length, refl, sym, ap, ⊎_elim, ◌∙◌, arith, get_or}
use Rattle.std.specs.Prelude.{flat_map}
use Rattle.std.proofs.lemmas.List.FromFn.{fill_by_all, get_or-map-range_with_len, length-map-range_with_len}
use Rattle.std.proofs.lemmas.Bool.{cases_lt}
use Rattle.std.proofs.lemmas.List.{get_or_past}
use Rattle.byteorder.specs.Endian.{little_bytes}
use Rattle.kern_image.specs.Words.{listed, word_of}

pub length-listed : (f : ℕ → ℕ) (n : ℕ) → length (listed f n) ≡ n
unfolding listed
length-listed f n = length-map-range_with_len f 0 n

pub get_or-listed : (f : ℕ → ℕ) (n k : ℕ) → k < n → get_or (listed f n) k 0 ≡ f k
unfolding listed
get_or-listed f n k low = get_or-map-range_with_len f 0 n k k 0 low (omega arith)

pub listed-from_all : (xs : List ℕ) (n : ℕ) (f : ℕ → ℕ) → length xs ≡ n → ((k : ℕ) → k < n → get_or xs k 0 ≡ f k) → xs ≡ listed f n
unfolding listed
listed-from_all xs n f len all = fill_by_all f xs n 0 len all

pub length-bytes : (ws : List ℕ) → length (flat_map (little_bytes 4) ws) ≡ 4 * length ws
length-bytes [] = refl
length-bytes (w ∷ ws) = let rest = length-bytes ws in omega (arith, rest)

-- the bytes of the k-th word
pub get_or-bytes : (ws : List ℕ) (k j : ℕ) → k < length ws → j < 4 → get_or (flat_map (little_bytes 4) ws) (4 * k + j) 0 ≡ get_or (little_bytes 4 (get_or ws k 0)) j 0
get_or-bytes [] k j low few = absurd (omega arith)
get_or-bytes (w ∷ ws) zero zero low few = refl
get_or-bytes (w ∷ ws) zero (suc zero) low few = refl
get_or-bytes (w ∷ ws) zero (suc (suc zero)) low few = refl
get_or-bytes (w ∷ ws) zero (suc (suc (suc zero))) low few = refl
get_or-bytes (w ∷ ws) zero (suc (suc (suc (suc j)))) low few = absurd (omega arith)
get_or-bytes (w ∷ ws) (suc k) j low few =
    let e : 4 * suc k + j ≡ suc (suc (suc (suc (4 * k + j)))) = omega arith in
    rw e (get_or-bytes ws k j (omega arith) few)

-- four bytes of a number are the number
of_bytes : (x : ℕ) → x < 2 ^ 32 → get_or (little_bytes 4 x) 0 0 + get_or (little_bytes 4 x) 1 0 * 2 ^ 8 + get_or (little_bytes 4 x) 2 0 * 2 ^ 16 + get_or (little_bytes 4 x) 3 0 * 2 ^ 24 ≡ x
of_bytes x small = omega arith

pub word_of-bytes : (ws : List ℕ) (k o : ℕ) → o ≡ 4 * k → k < length ws → get_or ws k 0 < 2 ^ 32 → word_of (flat_map (little_bytes 4) ws) o ≡ get_or ws k 0
word_of-bytes ws k o is low small =
    let a : get_or (flat_map (little_bytes 4) ws) o 0 ≡ get_or (little_bytes 4 (get_or ws k 0)) 0 0 = ap (λ i. get_or (flat_map (little_bytes 4) ws) i 0) (let e : o ≡ 4 * k + 0 = omega arith in e) ∙ get_or-bytes ws k 0 low (omega arith) in
    let b : get_or (flat_map (little_bytes 4) ws) (o + 1) 0 ≡ get_or (little_bytes 4 (get_or ws k 0)) 1 0 = ap (λ i. get_or (flat_map (little_bytes 4) ws) i 0) (let e : o + 1 ≡ 4 * k + 1 = omega arith in e) ∙ get_or-bytes ws k 1 low (omega arith) in
    let c : get_or (flat_map (little_bytes 4) ws) (o + 2) 0 ≡ get_or (little_bytes 4 (get_or ws k 0)) 2 0 = ap (λ i. get_or (flat_map (little_bytes 4) ws) i 0) (let e : o + 2 ≡ 4 * k + 2 = omega arith in e) ∙ get_or-bytes ws k 2 low (omega arith) in
    let d : get_or (flat_map (little_bytes 4) ws) (o + 3) 0 ≡ get_or (little_bytes 4 (get_or ws k 0)) 3 0 = ap (λ i. get_or (flat_map (little_bytes 4) ws) i 0) (let e : o + 3 ≡ 4 * k + 3 = omega arith in e) ∙ get_or-bytes ws k 3 low (omega arith) in
    let is_word = of_bytes (get_or ws k 0) small in
    omega (arith, a, b, c, d, is_word)

byte_small : (x j : ℕ) → get_or (little_bytes 4 x) j 0 < 2 ^ 8
byte_small x zero = omega arith
byte_small x (suc zero) = omega arith
byte_small x (suc (suc zero)) = omega arith
byte_small x (suc (suc (suc zero))) = omega arith
byte_small x (suc (suc (suc (suc j)))) = omega arith

some : (ws : List ℕ) (i : ℕ) → i < 4 * length ws → get_or (flat_map (little_bytes 4) ws) i 0 < 2 ^ 8
some ws i low =
    let e : 4 * (i / 4) + i % 4 ≡ i = omega arith in
    let is : get_or (flat_map (little_bytes 4) ws) i 0 ≡ get_or (little_bytes 4 (get_or ws (i / 4) 0)) (i % 4) 0 = ap (λ k. get_or (flat_map (little_bytes 4) ws) k 0) (sym e) ∙ get_or-bytes ws (i / 4) (i % 4) (omega arith) (omega arith) in
    let small = byte_small (get_or ws (i / 4) 0) (i % 4) in
    omega (arith, is, small)

-- the bytes are bytes
pub bytes_small : (ws : List ℕ) (i : ℕ) → get_or (flat_map (little_bytes 4) ws) i 0 < 2 ^ 8
bytes_small ws i = ⊎_elim (λ low. some ws i low) (λ high. rw (get_or_past (flat_map (little_bytes 4) ws) i 0 (omega (arith, length-bytes ws, high))) (omega arith)) (cases_lt i (4 * length ws))
