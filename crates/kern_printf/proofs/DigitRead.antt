-- A digit of the width or of the precision.
use Rattle.psx_flow.proofs.Kit.{◌≡◌, ℕ, ◌+◌, ◌-◌, ◌*◌, ◌%◌, ◌^◌, ◌<◌, ◌≤◌, refl, sym, ap, ◌∙◌, arith, true, false}
use Rattle.std.proofs.Common.{Bool, ⊎_elim}
use Rattle.std.specs.Prelude.{nat_lt, nat_le, min, ◌&&◌}
use Rattle.std.proofs.lemmas.Bool.{cases_lt, lt-ltb, le-leb}
use Rattle.psx_cpu.specs.Words.{truth}
use Rattle.abs_kernel.specs.Conversion.{is_digit, longer, limited}
use Rattle.kern_stay.proofs.RoomGiven.{true_then, false_then}
use Rattle.std.proofs.Math.Nat.{min-le_right, min-eq_left, min-eq_right}

-- ---- the test of a digit

digit_low : (b : ℕ) → truth (nat_lt b 0x30) < truth (nat_lt b 0x3A) → (0x30 ≤ b) × (b ≤ 0x39)
digit_low b h = ⊎_elim (λ l. absurd (let e = ap truth (lt-ltb b 0x30 l) in (let g = ap truth (lt-ltb b 0x3A (omega (arith, l))) in omega (arith, e, g, h)))) (λ g. (g, ⊎_elim (λ l. omega (arith, l)) (λ m. absurd (above m)) (cases_lt b 0x3A))) (cases_lt b 0x30)
  where
    above : 0x3A ≤ b → ⊥
    above m = let e : nat_lt b 0x3A ≡ false = grind (arith, m) in (let g = ap truth e in omega (arith, g, h))

digit_high : (b : ℕ) → truth (nat_lt b 0x3A) ≤ truth (nat_lt b 0x30) → 0x30 ≤ b → b ≤ 0x39 → ⊥
digit_high b h low high =
    let e : nat_lt b 0x30 ≡ false = grind (arith, low) in
    let x = ap truth e in
    let y = ap truth (lt-ltb b 0x3A (omega (arith, high))) in
    omega (arith, x, y, h)

pub digit_is : (b : ℕ) → (truth (nat_lt (truth (nat_lt b 0x30)) (truth (nat_lt b 0x3A))) ≡ 0 → ⊥) → (0x30 ≤ b) × (b ≤ 0x39)
digit_is b h = digit_low b (true_then _ _ h)

pub is_digit_true : (b : ℕ) → (0x30 ≤ b) × (b ≤ 0x39) → is_digit b ≡ true
is_digit_true b h = λ i. le-leb 0x30 b h.0 i && le-leb b 0x39 h.1 i

pub is_digit_false : (b : ℕ) → truth (nat_lt (truth (nat_lt b 0x30)) (truth (nat_lt b 0x3A))) ≡ 0 → is_digit b ≡ false
is_digit_false b h =
    let few = false_then _ _ h in
    ⊎_elim (λ l. let e : nat_le 0x30 b ≡ false = grind (arith, l) in ap (λ y. y && nat_le b 0x39) e)
    (λ g. ⊎_elim (λ l. absurd (digit_high b few g (omega (arith, l)))) (λ m. let e : nat_le b 0x39 ≡ false = grind (arith, m) in ap (λ y. nat_le 0x30 b && y) e ∙ none (nat_le 0x30 b)) (cases_lt b 0x3A)) (cases_lt b 0x30)
  where
    none : (y : Bool) → (y && false) ≡ false
    none true = refl
    none false = refl

-- ---- a number with a digit more, at most 255

-- what the words make of it
abbrev pub made : (r b : ℕ) → ℕ
made r b = (((r * 2 ^ 3 % 2 ^ 32 + r * 2 ^ 1 % 2 ^ 32) % 2 ^ 32 + b) % 2 ^ 32 + 0xFFFFFFD0) % 2 ^ 32

made_is : (r b : ℕ) → r ≤ 255 → (0x30 ≤ b) × (b ≤ 0x39) → made r b ≡ 10 * r + (b - 0x30)
made_is r b few d = let low = d.0 in let high = d.1 in omega (arith, few, low, high)

capped : (w : ℕ) → min w 255 ≤ 255
capped w = min-le_right w 255

pub below : (w r b : ℕ) → r ≡ limited w → (0x30 ≤ b) × (b ≤ 0x39) → made r b < 256 → made r b ≡ limited (longer w b)
below w r b e d h =
    let m = made_is r b (let c = capped w in omega (arith, e, c)) d in
    ⊎_elim
    (λ l.
    let same : r ≡ w = e ∙ min-eq_left (omega (arith, l)) in
    let value : made r b ≡ longer w b = m ∙ ap (λ y. 10 * y + (b - 0x30)) same in
    value ∙ sym (min-eq_left (omega (arith, value, h))))
    (λ g. absurd (let same : r ≡ 255 = e ∙ min-eq_right (omega (arith, g)) in omega (arith, same, m, h))) (cases_lt w 256)

pub above : (w r b : ℕ) → r ≡ limited w → (0x30 ≤ b) × (b ≤ 0x39) → 256 ≤ made r b → 255 ≡ limited (longer w b)
above w r b e d h =
    let m = made_is r b (let c = capped w in omega (arith, e, c)) d in
    ⊎_elim
    (λ l. let same : r ≡ w = e ∙ min-eq_left (omega (arith, l)) in sym (min-eq_right (omega (arith, same, m, h))))
    (λ g. sym (min-eq_right (let low = d.0 in omega (arith, g)))) (cases_lt w 256)
