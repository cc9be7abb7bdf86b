-- The first bad address behind a user address is the end of its range.
use Rattle.std.proofs.Common.{◌≡◌, ℕ, zero, suc, ◌+◌, ◌-◌, ◌%◌, ◌^◌, ◌<◌, ◌≤◌, true, false, Some, None, refl, ap, ◌∙◌, arith, inl, inr}
use Rattle.std.specs.Prelude.{◌⊎◌, if◌then◌else◌}
use Rattle.std.proofs.lemmas.Bool.{cases_lt}
use Rattle.psx_base.specs.Addresses.{user}
use Rattle.psx_base.specs.FirstBad.{first_bad_of, end_of}

-- the end of a user address lies above it
pub end_of-above : (a : ℕ) → a < 2 ^ 32 → user a ≡ true → a < end_of a
unfolding user
end_of-above a small h = grind arith

pub end_of-below : (a : ℕ) → a < 2 ^ 32 → user a ≡ true → end_of a < 2 ^ 32
unfolding user
end_of-below a small h = grind arith

-- it isn't user memory
end_of-bad : (a : ℕ) → a < 2 ^ 32 → user a ≡ true → user (end_of a) ≡ false
unfolding user
end_of-bad a small h = grind arith

-- up to it all is, with the same end
user-next : (a : ℕ) → a < 2 ^ 32 → user a ≡ true → a + 1 < end_of a → user (a + 1) ≡ true
unfolding user
user-next a small h l = grind arith

end_of-next : (a : ℕ) → a < 2 ^ 32 → user a ≡ true → a + 1 < end_of a → end_of (a + 1) ≡ end_of a
unfolding user
end_of-next a small h l = grind arith

-- one address on
step : (a n : ℕ) → a + 1 < 2 ^ 32 → user a ≡ true → first_bad_of a (suc n) ≡ first_bad_of (a + 1) n
step a n small h =
    ap (λ b. if b then first_bad_of ((a + 1) % 2 ^ 32) n else Some a) h ∙ ap (λ k. first_bad_of k n) (let e : (a + 1) % 2 ^ 32 ≡ a + 1 = omega arith in e)

-- so many addresses that all lie below the end
pub within : (n a : ℕ) → a < 2 ^ 32 → user a ≡ true → n ≤ end_of a - a → first_bad_of a n ≡ None
within zero a small h l = refl
within (suc n) a small h l =
    let above = end_of-above a small h in
    let below = end_of-below a small h in
    step a n (omega arith) h ∙ go (cases_lt (a + 1) (end_of a)) (λ (m : a + 1 < end_of a).
    let e = end_of-next a small h m in
    within n (a + 1) (omega arith) (user-next a small h m) (omega arith))
  where
    go : (a + 1 < end_of a) ⊎ (end_of a ≤ a + 1) → (a + 1 < end_of a → first_bad_of (a + 1) n ≡ None) → first_bad_of (a + 1) n ≡ None
    go (inl m) more = more m
    go (inr m) more = let none : n ≡ 0 = omega arith in ap (first_bad_of (a + 1)) none

-- so many that the end is among them
pub beyond : (n a : ℕ) → a < 2 ^ 32 → user a ≡ true → end_of a - a < n → first_bad_of a n ≡ Some (end_of a)
beyond zero a small h l = absurd (omega arith)
beyond (suc n) a small h l =
    let above = end_of-above a small h in
    let below = end_of-below a small h in
    step a n (omega arith) h ∙ go n (omega arith) (cases_lt (a + 1) (end_of a)) (λ (m : a + 1 < end_of a).
    let e = end_of-next a small h m in
    beyond n (a + 1) (omega arith) (user-next a small h m) (omega arith) ∙ ap Some e)
  where
    go : (k : ℕ) → end_of a - a < suc k → (a + 1 < end_of a) ⊎ (end_of a ≤ a + 1) → (a + 1 < end_of a → first_bad_of (a + 1) k ≡ Some (end_of a)) → first_bad_of (a + 1) k ≡ Some (end_of a)
    go k some (inl m) more = more m
    go zero some (inr m) more = absurd (let above = end_of-above a small h in omega arith)
    go (suc k) some (inr m) more =
        let above = end_of-above a small h in
        let is : a + 1 ≡ end_of a = omega arith in
        ap (λ x. first_bad_of x (suc k)) is ∙ ap (λ b. if b then first_bad_of ((end_of a + 1) % 2 ^ 32) k else Some (end_of a)) (end_of-bad a small h)
