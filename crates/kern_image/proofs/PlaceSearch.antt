-- A search of places, place by place.
use Rattle.std.proofs.Common.{◌≡◌, ℕ, zero, suc, ◌+◌, ◌<◌, true, false, List, [], ◌∷◌, length, get_or, drop, sym, ap, ◌∙◌, arith}
use Rattle.std.specs.Prelude.{if◌then◌else◌}
use Rattle.abs_kernel.specs.declared.calls.CallId.{CallId}
use Rattle.abs_kernel.specs.CallTable.{same_call}
use Rattle.kern_image.specs.declared.places.Place.{Place}
use Rattle.kern_image.specs.Tables.{place_of}

-- behind the place of another call it goes on
place_next : (ps : List Place) (i : ℕ) (id : CallId) (d : Place) → i < length ps → same_call (get_or ps i d).call id ≡ false → place_of (drop (suc i) ps) id ≡ place_of (drop i ps) id
place_next [] i id d low other = absurd (omega (arith, low))
place_next (p ∷ ps) zero id d low other = sym (ap (λ b. if b then p.at else place_of ps id) other)
place_next (p ∷ ps) (suc i) id d low other = place_next ps i id d (omega (arith, low)) other

pub place_on : (ps : List Place) (i : ℕ) (id : CallId) (d : Place) → i < length ps → same_call (get_or ps i d).call id ≡ false → place_of (drop (i + 1) ps) id ≡ place_of (drop i ps) id
place_on ps i id d low other = let e : i + 1 ≡ suc i = omega arith in ap (λ n. place_of (drop n ps) id) e ∙ place_next ps i id d low other

-- at a place that is the call's
pub place_here : (ps : List Place) (k : ℕ) (id : CallId) (d : Place) → k < length ps → same_call (get_or ps k d).call id ≡ true → place_of (drop k ps) id ≡ (get_or ps k d).at
place_here [] k id d lt h = absurd (omega (arith, lt))
place_here (p ∷ ps) zero id d lt h = ap (λ b. if b then p.at else place_of ps id) h
place_here (p ∷ ps) (suc k) id d lt h = place_here ps k id d (omega (arith, lt)) h
