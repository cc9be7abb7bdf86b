-- The definition of what is passed over, byte by byte.
use Rattle.psx_flow.proofs.Kit.{◌≡◌, ℕ, suc, ◌-◌, ◌<◌, true, false, sym, ap, ◌∙◌, arith}
use Rattle.std.proofs.Common.{zero, Bool, eq-eqb, ne_eqb, refl}
use Rattle.std.specs.Prelude.{nat_eq, if◌then◌else◌}
use Rattle.psx_base.specs.KernelState.{KernelState}
use Rattle.psx_cpu.specs.Words.{truth}
use Rattle.abs_kernel.specs.Stay.{Stay}
use Rattle.abs_kernel.specs.UserBytes.{reads_byte, following, longest}
use Rattle.abs_kernel.specs.ByteSets.{in_set, skips}

pub set_more : (n : ℕ) (s : KernelState) (at v : ℕ) (found absent : Stay) → 0 < n
    → in_set n s at v found absent ≡ reads_byte s at (λ w. if nat_eq w v then found else (if nat_eq w 0 then absent else in_set (n - 1) s (following at) v found absent))
set_more zero s at v found absent h = absurd (omega arith)
set_more (suc n) s at v found absent h =
    let e : suc n - 1 ≡ n = omega arith in
    ap (λ j. reads_byte s at (λ w. if nat_eq w v then found else (if nat_eq w 0 then absent else in_set j s (following at) v found absent))) (sym e)

-- what follows a byte that isn't 0
abbrev pub tested : (inside : Bool) → KernelState → (set v : ℕ) → (on over : Stay) → Stay
tested inside s set v on over = in_set longest s set v (if inside then on else over) (if inside then over else on)

pub skips_more : (inside : Bool) (n : ℕ) (s : KernelState) (set at : ℕ) (next : Bool → ℕ → Stay) → 0 < n
    → skips inside n s set at next ≡ reads_byte s at (λ v. if nat_eq v 0 then next true at else tested inside s set v (skips inside (n - 1) s set (following at) next) (next false at))
skips_more inside zero s set at next h = absurd (omega arith)
skips_more inside (suc n) s set at next h =
    let e : suc n - 1 ≡ n = omega arith in
    ap (λ j. reads_byte s at (λ v. if nat_eq v 0 then next true at else tested inside s set v (skips inside j s set (following at) next) (next false at))) (sym e)

-- the byte of the set with which the text goes on, and that at which it stops
abbrev pub goes_on : (inside : Bool) (v : ℕ) → ℕ
goes_on inside v = if inside then v else 0

abbrev pub stops_at : (inside : Bool) (v : ℕ) → ℕ
stops_at inside v = if inside then 0 else v

pub outside_is : (inside : Bool) → truth inside ≡ 0 → inside ≡ false
outside_is true h = absurd (omega (arith, h))
outside_is false h = refl

pub inside_is : (inside : Bool) → (truth inside ≡ 0 → ⊥) → inside ≡ true
inside_is true h = refl
inside_is false h = absurd (h refl)

module _ (v w : ℕ) (some : v ≡ 0 → ⊥) (on over rest : Stay) where
  -- a byte w of the set
  abbrev pub seen : (inside : Bool) → Stay
  seen inside = if nat_eq w v then (if inside then on else over) else (if nat_eq w 0 then (if inside then over else on) else rest)

  same_byte : (x y : Stay) → w ≡ v → (if nat_eq w v then x else (if nat_eq w 0 then y else rest)) ≡ x
  same_byte x y e = ap (λ t. if t then x else (if nat_eq w 0 then y else rest)) (eq-eqb w v e)

  zero_byte : (x y : Stay) → w ≡ 0 → (if nat_eq w v then x else (if nat_eq w 0 then y else rest)) ≡ y
  zero_byte x y e = ap (λ t. if t then x else (if nat_eq w 0 then y else rest)) (ne_eqb w v (λ q. some (sym q ∙ e))) ∙ ap (λ t. if t then y else rest) (eq-eqb w 0 e)

  pub seen_on : (inside : Bool) → w ≡ goes_on inside v → seen inside ≡ on
  seen_on true e = same_byte on over e
  seen_on false e = zero_byte over on e

  pub seen_over : (inside : Bool) → w ≡ stops_at inside v → seen inside ≡ over
  seen_over true e = zero_byte on over e
  seen_over false e = same_byte over on e

  other_byte : (x y : Stay) → (w ≡ v → ⊥) → (w ≡ 0 → ⊥) → (if nat_eq w v then x else (if nat_eq w 0 then y else rest)) ≡ rest
  other_byte x y p q = ap (λ t. if t then x else (if nat_eq w 0 then y else rest)) (ne_eqb w v p) ∙ ap (λ t. if t then y else rest) (ne_eqb w 0 q)

  pub seen_other : (inside : Bool) → (w ≡ goes_on inside v → ⊥) → (w ≡ stops_at inside v → ⊥) → seen inside ≡ rest
  seen_other true p q = other_byte on over p q
  seen_other false p q = other_byte over on q p

pub differ : (inside : Bool) (v : ℕ) → (v ≡ 0 → ⊥) → stops_at inside v ≡ goes_on inside v → ⊥
differ true v some e = some (sym e)
differ false v some e = some e
