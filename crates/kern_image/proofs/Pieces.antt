-- Pieces of words over other words, one behind the other.
use Rattle.std.proofs.Common.{◌≡◌, ℕ, ◌+◌, ◌-◌, ◌*◌, ◌/◌, ◌%◌, ◌^◌, ◌<◌, ◌≤◌, Bool, true, cond, List, [], ◌∷◌, length, get_or, refl, ap, ◌∙◌, arith, rules, tests, ⊎_elim}
use Rattle.std.specs.Prelude.{nat_le, nat_lt, nat_eq, ◌&&◌}
use Rattle.std.specs.List.{list_all}
use Rattle.std.proofs.lemmas.Bool.{and_parts, leb-true, ltb-true, eqb-true, cases_lt}
use Rattle.std.proofs.lemmas.List.{get_or_past}
use Rattle.std.proofs.lemmas.List.Sums.{AllPass-from_list_all}
use Rattle.kern_stay.specs.Words.{over, overlaid, Stand}
use Rattle.kern_layout.specs.Stands.{is_fixed}
use Rattle.kern_image.proofs.Fixed.{fixed_between, fixed_inside}

over-within : (at : ℕ) (ws : List ℕ) (f : ℕ → ℕ) (a : ℕ) → at ≤ a → a < at + 4 * length ws → over at ws f a ≡ get_or ws ((a - at) / 4) 0
unfolding over
over-within at ws f a low high = search (tests, rules)

over-before : (at : ℕ) (ws : List ℕ) (f : ℕ → ℕ) (a : ℕ) → a < at → over at ws f a ≡ f a
unfolding over
over-before at ws f a low = search (tests, rules)

over-behind : (at : ℕ) (ws : List ℕ) (f : ℕ → ℕ) (a : ℕ) → at + 4 * length ws ≤ a → over at ws f a ≡ f a
unfolding over
over-behind at ws f a low = search (tests, rules)

-- the pieces lie between two addresses, one behind the other
abbrev pub in_order : (from to : ℕ) → List (ℕ × List ℕ) → Bool
in_order from to [] = nat_le from to
in_order from to (p ∷ ps) = nat_le from p.0 && in_order (p.0 + 4 * length p.1) to ps

in_order_le : (from to : ℕ) (ps : List (ℕ × List ℕ)) → in_order from to ps ≡ true → from ≤ to
in_order_le from to [] h = leb-true _ _ h
in_order_le from to (p ∷ ps) h =
    let parts = and_parts (nat_le from p.0) (in_order (p.0 + 4 * length p.1) to ps) h in
    let here = leb-true _ _ parts.0 in
    let rest = in_order_le (p.0 + 4 * length p.1) to ps parts.1 in
    omega (arith, here, rest)

pub overlaid-behind : (from to : ℕ) (ps : List (ℕ × List ℕ)) (f : ℕ → ℕ) (a : ℕ) → in_order from to ps ≡ true → to ≤ a → overlaid ps f a ≡ f a
overlaid-behind from to [] f a h le = refl
overlaid-behind from to (p ∷ ps) f a h le =
    let parts = and_parts (nat_le from p.0) (in_order (p.0 + 4 * length p.1) to ps) h in
    let rest = in_order_le (p.0 + 4 * length p.1) to ps parts.1 in
    over-behind p.0 p.1 (overlaid ps f) a (omega (arith, rest, le)) ∙ overlaid-behind (p.0 + 4 * length p.1) to ps f a parts.1 le

pub overlaid_stand : (from to : ℕ) (ps : List (ℕ × List ℕ)) (f w : ℕ → ℕ) → in_order from to ps ≡ true → ((a : ℕ) → from ≤ a → w a ≡ overlaid ps f a) → Stand w ps
overlaid_stand from to [] f w h same = tt
overlaid_stand from to (p ∷ ps) f w h same =
    let parts = and_parts (nat_le from p.0) (in_order (p.0 + 4 * length p.1) to ps) h in
    let here = leb-true _ _ parts.0 in (
      λ k low.
          let at : (p.0 + 4 * k - p.0) / 4 ≡ k = omega arith in
          same (p.0 + 4 * k) (omega (arith, here)) ∙ over-within p.0 p.1 (overlaid ps f) (p.0 + 4 * k) (omega arith) (omega (arith, low)) ∙ ap (λ i. get_or p.1 i 0) at,
      overlaid_stand (p.0 + 4 * length p.1) to ps f w parts.1 (λ a le. same a (omega (arith, here, le)) ∙ over-behind p.0 p.1 (overlaid ps f) a le),
    )

-- where two functions are equal
over_same : (at : ℕ) (ws : List ℕ) (f g : ℕ → ℕ) (a : ℕ) → f a ≡ g a → over at ws f a ≡ over at ws g a
unfolding over
over_same at ws f g a e = ap (cond (nat_le at a && nat_lt a (at + 4 * length ws)) (get_or ws ((a - at) / 4) 0)) e

pub overlaid_same : (ps : List (ℕ × List ℕ)) (f g : ℕ → ℕ) (a : ℕ) → f a ≡ g a → overlaid ps f a ≡ overlaid ps g a
overlaid_same [] f g a e = e
overlaid_same (p ∷ ps) f g a e = over_same p.0 p.1 (overlaid ps f) (overlaid ps g) a (overlaid_same ps f g a e)

-- words that fit
pub list_fits : (ws : List ℕ) (k : ℕ) → list_all (λ (w : ℕ). nat_lt w (2 ^ 32)) ws ≡ true → get_or ws k 0 < 2 ^ 32
list_fits ws k h = ⊎_elim (λ low. ltb-true _ _ (AllPass-from_list_all (λ (w : ℕ). nat_lt w (2 ^ 32)) ws h k 0 low)) (λ high. rw (get_or_past ws k 0 high) (omega arith)) (cases_lt k (length ws))

abbrev pub all_fit : List (ℕ × List ℕ) → Bool
all_fit ps = list_all (λ (p : ℕ × List ℕ). list_all (λ (w : ℕ). nat_lt w (2 ^ 32)) p.1) ps

over_fits : (at : ℕ) (ws : List ℕ) (f : ℕ → ℕ) (a : ℕ) → list_all (λ (w : ℕ). nat_lt w (2 ^ 32)) ws ≡ true → f a < 2 ^ 32 → over at ws f a < 2 ^ 32
over_fits at ws f a h old =
    ⊎_elim
    (λ (before : a < at). rw (over-before at ws f a before) old)
    (λ (from : at ≤ a). ⊎_elim
    (λ (within : a < at + 4 * length ws). rw (over-within at ws f a from within) (list_fits ws ((a - at) / 4) h))
    (λ (behind : at + 4 * length ws ≤ a). rw (over-behind at ws f a behind) old)
    (cases_lt a (at + 4 * length ws)))
    (cases_lt a at)

pub overlaid_fits : (ps : List (ℕ × List ℕ)) (f : ℕ → ℕ) (a : ℕ) → all_fit ps ≡ true → f a < 2 ^ 32 → overlaid ps f a < 2 ^ 32
overlaid_fits [] f a h old = old
overlaid_fits (p ∷ ps) f a h old =
    let parts = and_parts (list_all (λ (w : ℕ). nat_lt w (2 ^ 32)) p.1) (all_fit ps) h in
    over_fits p.0 p.1 (overlaid ps f) a parts.0 (overlaid_fits ps f a parts.1 old)

-- pieces at whole words of the fixed ranges stand where other words are the same there
abbrev pub are_fixed : List (ℕ × List ℕ) → Bool
are_fixed ps = list_all (λ (p : ℕ × List ℕ). nat_eq (p.0 % 4) 0 && fixed_between p.0 (p.0 + 4 * length p.1)) ps

pub stand_there : (v w : ℕ → ℕ) (ps : List (ℕ × List ℕ)) → are_fixed ps ≡ true → ((a : ℕ) → a % 4 ≡ 0 → is_fixed a ≡ true → v a ≡ w a) → Stand w ps → Stand v ps
stand_there v w [] h same s = tt
stand_there v w (p ∷ ps) h same s =
    let parts = and_parts (nat_eq (p.0 % 4) 0 && fixed_between p.0 (p.0 + 4 * length p.1)) (are_fixed ps) h in
    let here = and_parts (nat_eq (p.0 % 4) 0) (fixed_between p.0 (p.0 + 4 * length p.1)) parts.0 in
    let aligned = eqb-true (p.0 % 4) 0 here.0 in
    (λ k low. same (p.0 + 4 * k) (omega (arith, aligned)) (fixed_inside p.0 (p.0 + 4 * length p.1) (p.0 + 4 * k) here.1 (omega arith) (omega (arith, low))) ∙ s.0 k low, stand_there v w ps parts.1 same s.1)
