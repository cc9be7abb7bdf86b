-- Ranges in rising order are apart.
use Rattle.std.proofs.Common.{◌≡◌, ℕ, zero, suc, ◌<◌, ◌≤◌, Bool, true, false, List, [], ◌∷◌, length, arith, get_or}
use Rattle.std.specs.Prelude.{nat_le, ◌&&◌, ◌||◌}
use Rattle.std.proofs.lemmas.Bool.{and_parts, leb-true}
use Rattle.psx_base.specs.Addresses.{user_main, scratchpad}
use Rattle.kern_layout.specs.declared.ranges.Range.{Range}
use Rattle.kern_layout.specs.Ranges.{In, RangesApart, RangesBelowUser}

-- each range begins where the one before ends, or later, and all end by the last address
abbrev pub rising : ℕ → ℕ → List Range → Bool
rising low high [] = nat_le low high
rising low high (r ∷ rs) = (nat_le low r.from && nat_le r.from r.to) && rising r.to high rs

here : (low high : ℕ) (r : Range) (rs : List Range) → rising low high (r ∷ rs) ≡ true → (low ≤ r.from) × (r.from ≤ r.to) × (rising r.to high rs ≡ true)
here low high r rs h =
    let p = and_parts (nat_le low r.from && nat_le r.from r.to) (rising r.to high rs) h in
    let q = and_parts (nat_le low r.from) (nat_le r.from r.to) p.0 in
    (leb-true _ _ q.0, leb-true _ _ q.1, p.1)

from_above : (rs : List Range) (low high : ℕ) → rising low high rs ≡ true → (j : ℕ) (d : Range) → j < length rs → low ≤ (get_or rs j d).from
from_above [] low high h j d lt = absurd (omega arith)
from_above (r ∷ rs) low high h zero d lt = (here low high r rs h).0
from_above (r ∷ rs) low high h (suc j) d lt =
    let p = here low high r rs h in
    let more : r.to ≤ (get_or rs j d).from = from_above rs r.to high p.2 j d (omega arith) in
    omega (arith, p.0, p.1)

to_below : (rs : List Range) (low high : ℕ) → rising low high rs ≡ true → (j : ℕ) (d : Range) → j < length rs → (get_or rs j d).to ≤ high
to_below [] low high h j d lt = absurd (omega arith)
to_below (r ∷ []) low high h zero d lt = leb-true _ _ (here low high r [] h).2
to_below (r ∷ s ∷ rs) low high h zero d lt =
    let p = here low high r (s ∷ rs) h in
    let q = here r.to high s rs p.2 in
    let more : s.to ≤ high = to_below (s ∷ rs) r.to high p.2 zero d (omega arith) in
    omega (arith, q.0, q.1)
to_below (r ∷ rs) low high h (suc j) d lt = to_below rs r.to high (here low high r rs h).2 j d (omega arith)

pub rising-apart : (rs : List Range) (low high : ℕ) → rising low high rs ≡ true → RangesApart rs
rising-apart rs low high h i j d lt few a x y = go rs low i j lt few h x y
  where
    go : (rs : List Range) (low i j : ℕ) → i < j → j < length rs → rising low high rs ≡ true → In (get_or rs i d) a → In (get_or rs j d) a → ⊥
    go [] low i j lt few h x y = omega arith
    go (r ∷ rs) low zero zero lt few h x y = omega arith
    go (r ∷ rs) low zero (suc j) lt few h x y =
        let p = here low high r rs h in
        let more : r.to ≤ (get_or rs j d).from = from_above rs r.to high p.2 j d (omega arith) in
        omega (arith, x.1, y.0)
    go (r ∷ rs) low (suc i) zero lt few h x y = omega arith
    go (r ∷ rs) low (suc i) (suc j) lt few h x y = go rs r.to i j (omega arith) (omega arith) (here low high r rs h).2 x y

not_user : (a : ℕ) → a < 0x10000 → (user_main a || scratchpad a) ≡ false
not_user a h = grind arith

pub rising-below_user : (rs : List Range) (low : ℕ) → rising low 0x10000 rs ≡ true → RangesBelowUser rs
rising-below_user rs low h k d lt a x = not_user a (let e : (get_or rs k d).to ≤ 0x10000 = to_below rs low 0x10000 h k d lt in omega (arith, x.1))
