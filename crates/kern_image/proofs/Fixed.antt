-- The ranges that hold the ROM's words, and memory that does.
use Rattle.std.proofs.Common.{◌≡◌, ◌⊎◌, ℕ, zero, suc, ◌+◌, ◌*◌, ◌/◌, ◌%◌, ◌^◌, ◌<◌, ◌≤◌, Bool, true, false, List, [], ◌∷◌, get_or, refl, ap, ◌∙◌, arith, ⊎_elim, inl, inr}
use Rattle.std.specs.Prelude.{nat_le, nat_lt, nat_eq, ◌&&◌, ◌||◌}
use Rattle.std.specs.List.{list_all, list_any}
use Rattle.std.proofs.lemmas.Bool.{and_parts, and_from, or_left, or_right, leb-true, ltb-true, eqb-true, le-leb, lt-ltb}
use Rattle.psx_base.specs.Memory.{Memory, byte, word}
use Rattle.kern_layout.specs.declared.ranges.Range.{Range}
use Rattle.kern_layout.specs.Stands.{HoldsRom, is_fixed, fixed_ranges}
use Rattle.kern_image.specs.Words.{word_of}

abbrev within : ℕ → Range → Bool
within a r = nat_le r.from a && nat_lt a r.to

-- a range of whole words of the kernel's 64 KB
abbrev whole : Range → Bool
whole r = nat_eq (r.from % 4) 0 && (nat_eq (r.to % 4) 0 && nat_le r.to 0x10000)

either : (x y : Bool) → (x || y) ≡ true → (x ≡ true) ⊎ (y ≡ true)
either true y h = inl refl
either false y h = inr h

one_range : (a b : ℕ) (r : Range) → a / 4 ≡ b / 4 → whole r ≡ true → within a r ≡ true → (within b r ≡ true) × (a < 0x10000)
one_range a b r e al h =
    let first = and_parts (nat_eq (r.from % 4) 0) (nat_eq (r.to % 4) 0 && nat_le r.to 0x10000) al in
    let last = and_parts (nat_eq (r.to % 4) 0) (nat_le r.to 0x10000) first.1 in
    let from = eqb-true (r.from % 4) 0 first.0 in
    let to = eqb-true (r.to % 4) 0 last.0 in
    let top = leb-true r.to 0x10000 last.1 in
    let here = and_parts (nat_le r.from a) (nat_lt a r.to) h in
    let low = leb-true r.from a here.0 in
    let high = ltb-true a r.to here.1 in
    (and_from (nat_le r.from b) (nat_lt b r.to) (le-leb r.from b (omega (arith, e, from, low))) (lt-ltb b r.to (omega (arith, e, to, high))), omega (arith, top, high))

-- an address of the ranges, and another of its word
in_ranges : (a b : ℕ) (rs : List Range) → a / 4 ≡ b / 4 → list_all whole rs ≡ true → list_any (within a) rs ≡ true → (list_any (within b) rs ≡ true) × (a < 0x10000)
in_ranges a b [] e al h = absurd (cc)
in_ranges a b (r ∷ rs) e al h =
    let parts = and_parts (whole r) (list_all whole rs) al in
    ⊎_elim
    (λ here. let p = one_range a b r e parts.0 here in (or_left (within b r) (list_any (within b) rs) p.0, p.1))
    (λ there. let p = in_ranges a b rs e parts.1 there in (or_right (within b r) (list_any (within b) rs) p.0, p.1))
    (either (within a r) (list_any (within a) rs) h)

pub fixed_word : (a b : ℕ) → a / 4 ≡ b / 4 → is_fixed a ≡ true → is_fixed b ≡ true
fixed_word a b e h = (in_ranges a b fixed_ranges e refl h).0

pub fixed_low : (a : ℕ) → is_fixed a ≡ true → a < 0x10000
fixed_low a h = (in_ranges a a fixed_ranges refl refl h).1

-- the bytes from an address to another lie in one range
abbrev pub fixed_between : (from to : ℕ) → Bool
fixed_between from to = list_any (λ (r : Range). nat_le r.from from && nat_le to r.to) fixed_ranges

between : (from to a : ℕ) (rs : List Range) → list_any (λ (r : Range). nat_le r.from from && nat_le to r.to) rs ≡ true → from ≤ a → a < to → list_any (within a) rs ≡ true
between from to a [] h low high = absurd (cc)
between from to a (r ∷ rs) h low high =
    ⊎_elim
    (λ here.
    let ends = and_parts (nat_le r.from from) (nat_le to r.to) here in
    let first = leb-true r.from from ends.0 in
    let last = leb-true to r.to ends.1 in
    or_left (within a r) (list_any (within a) rs) (and_from (nat_le r.from a) (nat_lt a r.to) (le-leb r.from a (omega (arith, first, low))) (lt-ltb a r.to (omega (arith, last, high)))))
    (λ there. or_right (within a r) (list_any (within a) rs) (between from to a rs there low high))
    (either (nat_le r.from from && nat_le to r.to) (list_any (λ (r : Range). nat_le r.from from && nat_le to r.to) rs) h)

pub fixed_inside : (from to a : ℕ) → fixed_between from to ≡ true → from ≤ a → a < to → is_fixed a ≡ true
fixed_inside from to a h low high = between from to a fixed_ranges h low high

-- memory that holds the ROM
pub word-held : (m : Memory) (rom : List ℕ) (a : ℕ) → HoldsRom m rom → a % 4 ≡ 0 → is_fixed a ≡ true → word m a ≡ word_of rom (0x10000 + a)
unfolding word
word-held m rom a holds al fixed =
    let one : byte m (a + 1) ≡ get_or rom (0x10000 + a + 1) 0 = holds (a + 1) (fixed_word a (a + 1) (omega (arith, al)) fixed) ∙ ap (λ i. get_or rom i 0) (let e : 0x10000 + (a + 1) ≡ 0x10000 + a + 1 = omega arith in e) in
    let two : byte m (a + 2) ≡ get_or rom (0x10000 + a + 2) 0 = holds (a + 2) (fixed_word a (a + 2) (omega (arith, al)) fixed) ∙ ap (λ i. get_or rom i 0) (let e : 0x10000 + (a + 2) ≡ 0x10000 + a + 2 = omega arith in e) in
    let three : byte m (a + 3) ≡ get_or rom (0x10000 + a + 3) 0 = holds (a + 3) (fixed_word a (a + 3) (omega (arith, al)) fixed) ∙ ap (λ i. get_or rom i 0) (let e : 0x10000 + (a + 3) ≡ 0x10000 + a + 3 = omega arith in e) in
    let zero = holds a fixed in
    omega (arith, zero, one, two, three)

-- four bytes of two equal words
same_bytes : (a b c d e f g h : ℕ) → a < 2 ^ 8 → b < 2 ^ 8 → c < 2 ^ 8 → e < 2 ^ 8 → f < 2 ^ 8 → g < 2 ^ 8 → a + b * 2 ^ 8 + c * 2 ^ 16 + d * 2 ^ 24 ≡ e + f * 2 ^ 8 + g * 2 ^ 16 + h * 2 ^ 24 → (a ≡ e) × ((b ≡ f) × ((c ≡ g) × (d ≡ h)))
same_bytes a b c d e f g h la lb lc le lf lg is = (omega arith, (omega arith, (omega arith, omega arith)))

pub byte-from_words : (m : Memory) (rom : List ℕ) (a : ℕ) → ((x : ℕ) → byte m x < 2 ^ 8) → ((i : ℕ) → get_or rom i 0 < 2 ^ 8) → word m (a / 4 * 4) ≡ word_of rom (0x10000 + a / 4 * 4) → byte m a ≡ get_or rom (0x10000 + a) 0
unfolding word
byte-from_words m rom a small small_rom is =
    let r = a / 4 * 4 in
    let same = same_bytes (byte m r) (byte m (r + 1)) (byte m (r + 2)) (byte m (r + 3)) (get_or rom (0x10000 + r) 0) (get_or rom (0x10000 + r + 1) 0) (get_or rom (0x10000 + r + 2) 0) (get_or rom (0x10000 + r + 3) 0)
    (small r) (small (r + 1)) (small (r + 2)) (small_rom (0x10000 + r)) (small_rom (0x10000 + r + 1)) (small_rom (0x10000 + r + 2)) is in
    by_rest (a % 4) refl same
  where
    moved : (k : ℕ) → a ≡ a / 4 * 4 + k → byte m (a / 4 * 4 + k) ≡ get_or rom (0x10000 + a / 4 * 4 + k) 0 → byte m a ≡ get_or rom (0x10000 + a) 0
    moved k e h = ap (byte m) e ∙ h ∙ ap (λ i. get_or rom i 0) (let at : 0x10000 + a / 4 * 4 + k ≡ 0x10000 + a = omega (arith, e) in at)

    by_rest : (k : ℕ) → a % 4 ≡ k → (byte m (a / 4 * 4) ≡ get_or rom (0x10000 + a / 4 * 4) 0) × ((byte m (a / 4 * 4 + 1) ≡ get_or rom (0x10000 + a / 4 * 4 + 1) 0) × ((byte m (a / 4 * 4 + 2) ≡ get_or rom (0x10000 + a / 4 * 4 + 2) 0) × (byte m (a / 4 * 4 + 3) ≡ get_or rom (0x10000 + a / 4 * 4 + 3) 0))) → byte m a ≡ get_or rom (0x10000 + a) 0
    by_rest zero e s = ap (byte m) (let at : a ≡ a / 4 * 4 = omega (arith, e) in at) ∙ s.0 ∙ ap (λ i. get_or rom i 0) (let at : 0x10000 + a / 4 * 4 ≡ 0x10000 + a = omega (arith, e) in at)
    by_rest (suc zero) e s = moved 1 (omega (arith, e)) s.1.0
    by_rest (suc (suc zero)) e s = moved 2 (omega (arith, e)) s.1.1.0
    by_rest (suc (suc (suc zero))) e s = moved 3 (omega (arith, e)) s.1.1.1
    by_rest (suc (suc (suc (suc k)))) e s = absurd (omega (arith, e))
