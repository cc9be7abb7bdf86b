-- The bytes of a word are placed where those before stand below it.
use Rattle.std.proofs.Common.{◌≡◌, ℕ, ◌+◌, ◌%◌, ◌/◌, ◌^◌, ◌<◌, ◌≤◌, false, not, nat_le, ◌==◌, List, [], ◌∷◌, ◌++◌, Option, None, Result, Ok, Err, refl, ap, ◌∙◌, arith}
use Rattle.std.specs.Prelude.{if◌then◌else◌, find}
use Rattle.std.proofs.lemmas.Bool.{cond-false, and_from, le-leb, or_from, ne_eqb, not_from_true}
use Rattle.psx_asm.specs.declared.shape.Width.TheVariants.{Word}
use Rattle.psx_asm.specs.declared.fault.AsmFault.{AsmFault}
use Rattle.psx_asm.specs.declared.fault.AsmFault.TheVariants.{Overlap}
use Rattle.psx_asm.specs.Operands.{Known}
use Rattle.psx_asm.specs.Statement.{Statement, Empty, Org}
use Rattle.psx_asm.specs.Line.{◌>>=◌}
use Rattle.psx_asm.specs.Encoding.{bytes_of, encoded}
use Rattle.psx_asm.specs.Placing.{addressed, is_inside, in_window, is_taken, is_overlap, placing}
use Rattle.psx_dis.specs.Returning.{word_bytes, IsHeld}

abbrev pub Placed : Type 0
Placed = List (ℕ × ℕ)

-- each address stands below this one
abbrev pub AreBelow : Placed → ℕ → Type 0
AreBelow [] at = Unit {0}
AreBelow (p ∷ ps) at = (p.0 < at) × AreBelow ps at

below_more : (ps : Placed) (m n : ℕ) → AreBelow ps m → m ≤ n → AreBelow ps n
below_more [] m n below more = tt
below_more (p ∷ ps) m n below more = (omega arith, below_more ps m n below.1 more)

below_joined : (ps qs : Placed) (at : ℕ) → AreBelow ps at → AreBelow qs at → AreBelow (ps ++ qs) at
below_joined [] qs at a b = b
below_joined (p ∷ ps) qs at a b = (a.0, below_joined ps qs at a.1 b)

pub below_next : (ps : Placed) (at w : ℕ) → AreBelow ps at → AreBelow (ps ++ word_bytes at (w ∷ [])) (at + 4)
below_next ps at w below = below_joined ps (word_bytes at (w ∷ [])) (at + 4) (below_more ps at (at + 4) below (omega arith)) (omega arith, (omega arith, (omega arith, (omega arith, tt))))

not_taken : (ps : Placed) (at : ℕ) → AreBelow ps at → is_taken ps at ≡ false
not_taken [] at below = refl
not_taken (p ∷ ps) at below = or_from (p.0 == at) (is_taken ps at) (ne_eqb p.0 at (λ same. absurd (omega arith))) (not_taken ps at below.1)

no_overlap : (ps : Placed) (at w : ℕ) → AreBelow ps at → is_overlap ps (word_bytes at (w ∷ [])) ≡ false
no_overlap ps at w below =
    let free = λ (n : ℕ) (more : at ≤ n). not_taken ps n (below_more ps at n below more) in
    or_from _ _ (free at (omega arith)) (or_from _ _ (free (at + 1) (omega arith)) (or_from _ _ (free (at + 2) (omega arith)) (or_from _ _ (free (at + 3) (omega arith)) refl)))

addressed_word : (at w : ℕ) → at + 4 ≤ 2 ^ 32 → addressed at (bytes_of Word w) ≡ word_bytes at (w ∷ [])
addressed_word at w end =
    let one : (at + 1) % 2 ^ 32 ≡ at + 1 = omega arith in
    let two : ((at + 1) % 2 ^ 32 + 1) % 2 ^ 32 ≡ at + 2 = omega arith in
    let three : (((at + 1) % 2 ^ 32 + 1) % 2 ^ 32 + 1) % 2 ^ 32 ≡ at + 3 = omega arith in
    λ i. (at, w % 2 ^ 8) ∷ (one i, w / 2 ^ 8 % 2 ^ 8) ∷ (two i, w / 2 ^ 16 % 2 ^ 8) ∷ (three i, w / 2 ^ 24) ∷ []

inside : (from to at : ℕ) → (from ≤ at) × (at ≤ to) → not (is_inside from to at) ≡ false
inside from to at h = not_from_true (is_inside from to at) (and_from (nat_le from at) (nat_le at to) (le-leb from at h.0) (le-leb at to h.1))

none_outside : (from to at w : ℕ) → IsHeld from to at 4 → find (λ p. not (is_inside from to p.0)) (word_bytes at (w ∷ [])) ≡ None
none_outside from to at w held =
    let first : (from ≤ at) × (at ≤ to) = let here = held 0 (omega arith) in omega arith in
    cond-false _ _ _ (inside from to at first) ∙ cond-false _ _ _ (inside from to (at + 1) (held 1 (omega arith))) ∙ cond-false _ _ _ (inside from to (at + 2) (held 2 (omega arith)))
    ∙ cond-false _ _ _ (inside from to (at + 3) (held 3 (omega arith)))

-- what is placed of these bytes
abbrev place_bytes : (from to : ℕ) → Placed → Placed → Result Placed AsmFault
place_bytes from to placed bytes = in_window bytes (find (λ p. not (is_inside from to p.0)) bytes) >>= λ new. if is_overlap placed new then Err Overlap else Ok new

word_placed : (from to : ℕ) (placed : Placed) (at w : ℕ) → at + 4 ≤ 2 ^ 32 → IsHeld from to at 4 → AreBelow placed at
    → place_bytes from to placed (addressed at (bytes_of Word w)) ≡ Ok (word_bytes at (w ∷ []))
word_placed from to placed at w end held below =
    let new = word_bytes at (w ∷ []) in
    ap (place_bytes from to placed) (addressed_word at w end)
    ∙ ap (λ (o : Option (ℕ × ℕ)). in_window new o >>= λ new. if is_overlap placed new then Err Overlap else Ok new) (none_outside from to at w held)
    ∙ cond-false (is_overlap placed new) (Err Overlap) (Ok new) (no_overlap placed at w below)

pub word_places : (known : Known) (from to : ℕ) (placed : Placed) (at w : ℕ) (s : Statement) → encoded known at s ≡ Ok (bytes_of Word w) → at + 4 ≤ 2 ^ 32 → IsHeld from to at 4
    → AreBelow placed at → placing known from to at placed s ≡ Ok (word_bytes at (w ∷ []))
unfolding placing
word_places known from to placed at w s e end held below =
    ap (λ (r : Result (List ℕ) AsmFault). r >>= λ bytes. place_bytes from to placed (addressed at bytes)) e ∙ word_placed from to placed at w end held below

pub empty_places : (known : Known) (from to at : ℕ) (placed : Placed) → placing known from to at placed Empty ≡ Ok []
unfolding placing
empty_places known from to at placed = refl

pub org_places : (known : Known) (from to at n : ℕ) (placed : Placed) → placing known from to at placed (Org n) ≡ Ok []
unfolding placing
org_places known from to at n placed = refl
