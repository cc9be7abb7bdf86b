-- The longest front of a list whose elements pass a test.
use Rattle.std.proofs.Common.{◌≡◌, ℕ, zero, suc, ◌+◌, ◌≤◌, Bool, true, List, [], ◌∷◌, length, take, refl, subst, ◌∙◌, arith}
use Rattle.std.specs.List.{prefix_len, list_all}
use Rattle.std.proofs.lemmas.Bool.{cond-true, cond_both, and_parts, and_from}

pub prefix_more : (p : ℕ → Bool) (x : ℕ) (xs : List ℕ) → p x ≡ true → prefix_len p (x ∷ xs) ≡ suc (prefix_len p xs)
prefix_more p x xs pass = cond-true (p x) (1 + prefix_len p xs) 0 pass ∙ omega arith

-- no longer front passes
pub prefix_most : (p : ℕ → Bool) (n : ℕ) (xs : List ℕ) → n ≤ length xs → list_all p (take n xs) ≡ true → n ≤ prefix_len p xs
prefix_most p zero xs within all = omega arith
prefix_most p (suc n) [] within all = absurd (omega arith)
prefix_most p (suc n) (x ∷ xs) within all =
    let parts = and_parts (p x) (list_all p (take n xs)) all in
    omega (arith, prefix_more p x xs parts.0, prefix_most p n xs (omega arith) parts.1)

-- it passes
pub prefix_all : (p : ℕ → Bool) (xs : List ℕ) → list_all p (take (prefix_len p xs) xs) ≡ true
prefix_all p [] = refl
prefix_all p (x ∷ xs) = cond_both (p x) (1 + prefix_len p xs) 0 (λ n. list_all p (take n (x ∷ xs)) ≡ true)
    (λ pass. let e : suc (prefix_len p xs) ≡ 1 + prefix_len p xs = omega arith in
    subst (λ (n : ℕ). list_all p (take n (x ∷ xs)) ≡ true) e (and_from (p x) (list_all p (take (prefix_len p xs) xs)) pass (prefix_all p xs)))
    (λ fail. refl)
