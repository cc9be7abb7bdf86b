-- A range of user memory is one piece of physical memory, so a program that was read is placed by two copies.
use Rattle.std.proofs.Common.{◌≡◌, ℕ, zero, suc, ◌+◌, ◌-◌, ◌%◌, ◌^◌, ◌<◌, ◌≤◌, true, false, Bool, List, [], ◌∷◌, length, replicate, Some, None, refl, sym, ap, ◌∙◌, subst, arith, inl, inr, nat_eq}
use Rattle.std.specs.Prelude.{◌⊎◌, ◌&&◌, if◌then◌else◌}
use Rattle.std.proofs.lemmas.Bool.{cases_lt}
use Rattle.std.proofs.lemmas.List.{length-replicate}
use Rattle.psx_base.specs.Addresses.{user, place}
use Rattle.psx_base.specs.FirstBad.{first_bad_of, end_of}
use Rattle.psx_base.specs.Memory.{Memory, put_byte, put_bytes}
use Rattle.psx_base.proofs.Ranges.{beyond, end_of-below}
use Rattle.psx_exe.specs.declared.exe.Exe.{Exe}
use Rattle.psx_exe.specs.Reading.{IsReadable}
use Rattle.psx_exe.specs.Placed.{written_from, placed}
use Rattle.psx_exe.proofs.Written.{read_of-accepted, read_of-program, length-text_of}

-- so many bytes from a physical address on lie in main memory behind the kernel's
pub record InMain (p n : ℕ) : Type 0 where
  pub above : 0x10000 ≤ p
  pub below : p + n ≤ 0x200000

-- so many bytes from a physical address on lie in the scratchpad
pub record InScratchpad (p n : ℕ) : Type 0 where
  pub above : 0x1F800000 ≤ p
  pub below : p + n ≤ 0x1F800400

-- the first address of a range without a bad one is user memory
pub user_first : (a n : ℕ) → 0 < n → first_bad_of a n ≡ None → user a ≡ true
user_first a zero some none = absurd (omega arith)
user_first a (suc n) some none = go (user a) none
  where
    go : (b : Bool) → (if b then first_bad_of ((a + 1) % 2 ^ 32) n else Some a) ≡ None → b ≡ true
    go true h = refl
    go false h = cc

-- and the range ends before the memory that the address stands in does
pub bounded : (a n : ℕ) → a < 2 ^ 32 → 0 < n → first_bad_of a n ≡ None → a + n ≤ end_of a
bounded a n small some none =
    let is = user_first a n some none in
    go (cases_lt (end_of a - a) n) (λ (h : end_of a - a < n). sym none ∙ beyond n a small is h)
  where
    go : (end_of a - a < n) ⊎ (n ≤ end_of a - a) → (end_of a - a < n → None ≡ Some (end_of a)) → a + n ≤ end_of a
    go (inl h) k = let e = k h in cc
    go (inr h) k = omega arith

-- in physical memory too
pub main_or_scratchpad : (a n : ℕ) → user a ≡ true → a + n ≤ end_of a → InMain (place a) n ⊎ InScratchpad (place a) n
unfolding user
main_or_scratchpad a n is end = go (cases_lt (a % 2 ^ 29) 0x200000)
  where
    go : (a % 2 ^ 29 < 0x200000) ⊎ (0x200000 ≤ a % 2 ^ 29) → InMain (place a) n ⊎ InScratchpad (place a) n
    go (inl h) = inl (record { above = grind arith; below = grind arith })
    go (inr h) = inr (record { above = grind arith; below = grind arith })

-- the places of a range follow one another
pub place-add : (a k : ℕ) → user a ≡ true → a + k < end_of a → place (a + k) ≡ place a + k
unfolding user
place-add a k is end = grind arith

-- a range without a bad address lies in main memory or in the scratchpad
pub range : (a n : ℕ) → a < 2 ^ 32 → 0 < n → first_bad_of a n ≡ None → InMain (place a) n ⊎ InScratchpad (place a) n
range a n small some none = main_or_scratchpad a n (user_first a n some none) (bounded a n small some none)

-- and its places follow one another
pub range-place : (a n k : ℕ) → a < 2 ^ 32 → k < n → first_bad_of a n ≡ None → place (a + k) ≡ place a + k
range-place a n k small inside none =
    let end = bounded a n small (omega arith) none in
    place-add a k (user_first a n (omega arith) none) (omega arith)

-- a range without a bad address is still one without its first address
range-next : (a n : ℕ) → first_bad_of a (suc n) ≡ None → first_bad_of ((a + 1) % 2 ^ 32) n ≡ None
range-next a n none = go (user a) none
  where
    go : (b : Bool) → (if b then first_bad_of ((a + 1) % 2 ^ 32) n else Some a) ≡ None → first_bad_of ((a + 1) % 2 ^ 32) n ≡ None
    go true h = h
    go false h = cc

-- bytes that are written to it are put one after the other in physical memory
pub written_from-range : (m : Memory) (a : ℕ) (xs : List ℕ) → a < 2 ^ 32 → first_bad_of a (length xs) ≡ None → written_from m a xs ≡ put_bytes m (place a) xs
unfolding written_from put_bytes
written_from-range m a [] small none = refl
written_from-range m a (x ∷ []) small none = refl
written_from-range m a (x ∷ y ∷ xs) small none =
    let none' : first_bad_of a (suc (suc (length xs))) ≡ None = none in
    let end = bounded a (suc (suc (length xs))) small (omega arith) none' in
    let below = end_of-below a small (user_first a (suc (suc (length xs))) (omega arith) none') in
    let next : (a + 1) % 2 ^ 32 ≡ a + 1 = omega arith in
    let moved : place ((a + 1) % 2 ^ 32) ≡ place a + 1 = ap place next ∙ range-place a (suc (suc (length xs))) 1 small (omega arith) none' in
    written_from-range (put_byte m (place a) x) ((a + 1) % 2 ^ 32) (y ∷ xs) (omega arith) (range-next a (suc (length xs)) none')
    ∙ ap (λ (p : ℕ). put_bytes (put_byte m (place a) x) p (y ∷ xs)) moved

-- the text and the fill of a program that can be read lie in user memory, and it starts there
pub record IsSafe (e : Exe) : Type 0 where
  pub text : first_bad_of e.dest (length e.text) ≡ None
  pub fits : length e.text ≤ 0x800000 - 0x800
  pub fill : first_bad_of e.fill_start e.fill_size ≡ None
  pub start : (nat_eq (e.pc % 4) 0 && user e.pc) ≡ true

pub safe : (e : Exe) → IsReadable e → IsSafe e
safe e r =
    let a = read_of-accepted r.bytes e r.read in
    let len = length-text_of r.bytes a in
    let limit = a.limit in
    let whole = a.sound.whole in
    subst (λ (e : Exe). IsSafe e) (read_of-program r.bytes e r.read) (record {
      text = rw len a.sound.text;
      fits = omega arith;
      fill = a.sound.fill;
      start = a.sound.start;
    })

-- so it is placed by two copies
pub placed-safe : (m : Memory) (e : Exe) → IsSafe e → e.dest < 2 ^ 32 → e.fill_start < 2 ^ 32
    → placed m e ≡ put_bytes (put_bytes m (place e.dest) e.text) (place e.fill_start) (replicate e.fill_size 0)
unfolding placed
placed-safe m e r small_dest small_start =
    let none : first_bad_of e.fill_start (length (replicate e.fill_size 0)) ≡ None = rw length-replicate r.fill in
    written_from-range (written_from m e.dest e.text) e.fill_start (replicate e.fill_size 0) small_start none
    ∙ ap (λ (x : Memory). put_bytes x (place e.fill_start) (replicate e.fill_size 0)) (written_from-range m e.dest e.text small_dest r.text)
