-- The memory of the three parts: what is read at an address of each, and what a write to a part is.
use Rattle.std.proofs.Common.{◌≡◌, ℕ, ◌+◌, ◌-◌, ◌/◌, ◌%◌, ◌^◌, ◌<◌, ◌≤◌, List, length, get_or, set, refl, ap, sym, ◌∙◌, arith, inl}
use Rattle.std.proofs.Math.ListN.{length-set}
use Rattle.psx_base.specs.Memory.{no_bytes, byte, word, put_byte, put_bytes, put_word}
use Rattle.psx_ram.specs.Words.{word_at, with_word}
use Rattle.psx_ram.specs.Parts.{of_parts}
use Rattle.psx_ram.proofs.FourBytes.{word_of}
use Rattle.psx_ram.proofs.Bytes.{byte-put_bytes, byte-put_bytes_apart, put_bytes-set, put_byte-put_bytes_apart}

-- ---- reads: a byte of each part, and four of them

pub byte_main : (m s r : List ℕ) (q : ℕ) → length m ≤ 0x1F800000 → q < length m → byte (of_parts m s r) q ≡ get_or m q 0
unfolding of_parts
byte_main m s r q l h =
    byte-put_bytes_apart (put_bytes (put_bytes no_bytes 0 m) 0x1F800000 s) 0x1FC00000 r q (inl (omega arith))
    ∙ byte-put_bytes_apart (put_bytes no_bytes 0 m) 0x1F800000 s q (inl (omega arith))
    ∙ byte-put_bytes no_bytes 0 m q (omega arith) (omega arith)
    ∙ ap (λ k. get_or m k 0) {x = q - 0} {y = q} (omega arith)

pub byte_scratchpad : (m s r : List ℕ) (q i : ℕ) → length s ≤ 0x400000 → q ≡ 0x1F800000 + i → i < length s → byte (of_parts m s r) q ≡ get_or s i 0
unfolding of_parts
byte_scratchpad m s r q i l e h =
    byte-put_bytes_apart (put_bytes (put_bytes no_bytes 0 m) 0x1F800000 s) 0x1FC00000 r q (inl (omega arith))
    ∙ byte-put_bytes (put_bytes no_bytes 0 m) 0x1F800000 s q (omega arith) (omega arith)
    ∙ ap (λ k. get_or s k 0) {x = q - 0x1F800000} {y = i} (omega arith)

pub byte_rom : (m s r : List ℕ) (q i : ℕ) → q ≡ 0x1FC00000 + i → i < length r → byte (of_parts m s r) q ≡ get_or r i 0
unfolding of_parts
byte_rom m s r q i e h =
    byte-put_bytes (put_bytes (put_bytes no_bytes 0 m) 0x1F800000 s) 0x1FC00000 r q (omega arith) (omega arith)
    ∙ ap (λ k. get_or r k 0) {x = q - 0x1FC00000} {y = i} (omega arith)

pub word_main : (m s r : List ℕ) (q : ℕ) → length m ≤ 0x1F800000 → q + 4 ≤ length m → word_at m q ≡ word (of_parts m s r) q
word_main m s r q l h =
    word_of (of_parts m s r) q m q (byte_main m s r q l (omega arith)) (byte_main m s r (q + 1) l (omega arith))
    (byte_main m s r (q + 2) l (omega arith)) (byte_main m s r (q + 3) l (omega arith))

pub word_scratchpad : (m s r : List ℕ) (q i : ℕ) → length s ≤ 0x400000 → q ≡ 0x1F800000 + i → i + 4 ≤ length s → word_at s i ≡ word (of_parts m s r) q
word_scratchpad m s r q i l e h =
    word_of (of_parts m s r) q s i (byte_scratchpad m s r q i l e (omega arith)) (byte_scratchpad m s r (q + 1) (i + 1) l (omega arith) (omega arith))
    (byte_scratchpad m s r (q + 2) (i + 2) l (omega arith) (omega arith)) (byte_scratchpad m s r (q + 3) (i + 3) l (omega arith) (omega arith))

pub word_rom : (m s r : List ℕ) (q i : ℕ) → q ≡ 0x1FC00000 + i → i + 4 ≤ length r → word_at r i ≡ word (of_parts m s r) q
word_rom m s r q i e h =
    word_of (of_parts m s r) q r i (byte_rom m s r q i e (omega arith)) (byte_rom m s r (q + 1) (i + 1) (omega arith) (omega arith))
    (byte_rom m s r (q + 2) (i + 2) (omega arith) (omega arith)) (byte_rom m s r (q + 3) (i + 3) (omega arith) (omega arith))

-- ---- writes

pub set_main : (m s r : List ℕ) (i v : ℕ) → length m ≤ 0x1F800000 → i < length m → of_parts (set m i v) s r ≡ put_byte (of_parts m s r) i v
unfolding of_parts
set_main m s r i v l h =
    ap (λ k. put_bytes (put_bytes k 0x1F800000 s) 0x1FC00000 r) (put_bytes-set no_bytes 0 m i v h ∙ ap (λ k. put_byte (put_bytes no_bytes 0 m) k v) {x = 0 + i} {y = i} (omega arith))
    ∙ ap (λ k. put_bytes k 0x1FC00000 r) (sym (put_byte-put_bytes_apart (put_bytes no_bytes 0 m) 0x1F800000 s i v (inl (omega arith))))
    ∙ sym (put_byte-put_bytes_apart (put_bytes (put_bytes no_bytes 0 m) 0x1F800000 s) 0x1FC00000 r i v (inl (omega arith)))

pub set_scratchpad : (m s r : List ℕ) (i q v : ℕ) → length s ≤ 0x400000 → i < length s → q ≡ 0x1F800000 + i
    → of_parts m (set s i v) r ≡ put_byte (of_parts m s r) q v
unfolding of_parts
set_scratchpad m s r i q v l h e =
    ap (λ k. put_bytes k 0x1FC00000 r) (put_bytes-set (put_bytes no_bytes 0 m) 0x1F800000 s i v h)
    ∙ sym (put_byte-put_bytes_apart (put_bytes (put_bytes no_bytes 0 m) 0x1F800000 s) 0x1FC00000 r (0x1F800000 + i) v (inl (omega arith)))
    ∙ ap (λ k. put_byte (put_bytes (put_bytes (put_bytes no_bytes 0 m) 0x1F800000 s) 0x1FC00000 r) k v) (sym e)

-- ---- four bytes written

pub put_word_main : (m s r : List ℕ) (i v : ℕ) → length m ≤ 0x1F800000 → i + 4 ≤ length m → of_parts (with_word m i v) s r ≡ put_word (of_parts m s r) i v
unfolding put_word
put_word_main m s r i v l h =
    let m0 = set m i (v % 2 ^ 8) in
    let m1 = set m0 (i + 1) (v / 2 ^ 8 % 2 ^ 8) in
    let m2 = set m1 (i + 2) (v / 2 ^ 16 % 2 ^ 8) in
    let l0 : length m0 ≡ length m = length-set m i (v % 2 ^ 8) in
    let l1 : length m1 ≡ length m0 = length-set m0 (i + 1) (v / 2 ^ 8 % 2 ^ 8) in
    let l2 : length m2 ≡ length m1 = length-set m1 (i + 2) (v / 2 ^ 16 % 2 ^ 8) in
    set_main m2 s r (i + 3) (v / 2 ^ 24) (omega arith) (omega arith)
    ∙ ap (λ k. put_byte k (i + 3) (v / 2 ^ 24)) (set_main m1 s r (i + 2) (v / 2 ^ 16 % 2 ^ 8) (omega arith) (omega arith)
    ∙ ap (λ k. put_byte k (i + 2) (v / 2 ^ 16 % 2 ^ 8)) (set_main m0 s r (i + 1) (v / 2 ^ 8 % 2 ^ 8) (omega arith) (omega arith)
    ∙ ap (λ k. put_byte k (i + 1) (v / 2 ^ 8 % 2 ^ 8)) (set_main m s r i (v % 2 ^ 8) l (omega arith))))

pub put_word_scratchpad : (m s r : List ℕ) (i v : ℕ) → length s ≤ 0x400000 → i + 4 ≤ length s
    → of_parts m (with_word s i v) r ≡ put_word (of_parts m s r) (0x1F800000 + i) v
unfolding put_word
put_word_scratchpad m s r i v l h =
    let s0 = set s i (v % 2 ^ 8) in
    let s1 = set s0 (i + 1) (v / 2 ^ 8 % 2 ^ 8) in
    let s2 = set s1 (i + 2) (v / 2 ^ 16 % 2 ^ 8) in
    let l0 : length s0 ≡ length s = length-set s i (v % 2 ^ 8) in
    let l1 : length s1 ≡ length s0 = length-set s0 (i + 1) (v / 2 ^ 8 % 2 ^ 8) in
    let l2 : length s2 ≡ length s1 = length-set s1 (i + 2) (v / 2 ^ 16 % 2 ^ 8) in
    set_scratchpad m s2 r (i + 3) (0x1F800000 + i + 3) (v / 2 ^ 24) (omega arith) (omega arith) (omega arith)
    ∙ ap (λ k. put_byte k (0x1F800000 + i + 3) (v / 2 ^ 24)) (set_scratchpad m s1 r (i + 2) (0x1F800000 + i + 2) (v / 2 ^ 16 % 2 ^ 8) (omega arith) (omega arith) (omega arith)
    ∙ ap (λ k. put_byte k (0x1F800000 + i + 2) (v / 2 ^ 16 % 2 ^ 8)) (set_scratchpad m s0 r (i + 1) (0x1F800000 + i + 1) (v / 2 ^ 8 % 2 ^ 8) (omega arith) (omega arith) (omega arith)
    ∙ ap (λ k. put_byte k (0x1F800000 + i + 1) (v / 2 ^ 8 % 2 ^ 8)) (set_scratchpad m s r i (0x1F800000 + i) (v % 2 ^ 8) l (omega arith) refl)))
