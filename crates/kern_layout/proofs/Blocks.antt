-- Blocks, rows and stacks: what a store leaves of them, and what it makes of them.
use Rattle.std.proofs.Common.{◌≡◌, ℕ, suc, ◌+◌, ◌*◌, ◌%◌, ◌<◌, ◌≤◌, Bool, true, cond, List, [], ◌∷◌, length, refl, sym, ap, ◌∙◌, subst, arith, inl, inr, ⊎_elim, get_or-set_same, get_or-set_other}
use Rattle.std.specs.Prelude.{◌⊎◌, nat_le, nat_lt, nat_eq, ◌&&◌, slice_index_or, slice_set}
use Rattle.std.proofs.Math.Nat.{mul-le-mul_left}
use Rattle.std.proofs.lemmas.List.{length-set, same_lists, get_or_default}
use Rattle.std.proofs.lemmas.Bool.{and_parts, leb-true, ltb-true, eqb-true, eq-eqb, ne_eqb, cases_eq, cases_lt}
use Rattle.kern_layout.specs.Fields.{Fields, Block, Rows, Stack}
use Rattle.kern_layout.specs.Stores.{Same, SameOutside, put, with_field}

-- ---- blocks

-- each offset of the fields is a multiple of 4 in a range
abbrev pub inside : ℕ → ℕ → Fields → Bool
inside low high [] = true
inside low high (f ∷ fs) = ((nat_le low f.0 && nat_lt f.0 high) && nat_eq (f.0 % 4) 0) && inside low high fs

pub first_in : (low high x : ℕ) (b : Bool) → (((nat_le low x && nat_lt x high) && nat_eq (x % 4) 0) && b) ≡ true → (low ≤ x) × (x < high) × (x % 4 ≡ 0) × (b ≡ true)
first_in low high x b h =
    let p = and_parts ((nat_le low x && nat_lt x high) && nat_eq (x % 4) 0) b h in
    let q = and_parts (nat_le low x && nat_lt x high) (nat_eq (x % 4) 0) p.0 in
    let r = and_parts (nat_le low x) (nat_lt x high) q.0 in
    (leb-true _ _ r.0, ltb-true _ _ r.1, eqb-true _ _ q.1, p.1)

pub block_same : (w x : ℕ → ℕ) (at low high : ℕ) (f : Fields) → at % 4 ≡ 0 → inside low high f ≡ true → Same (at + low) (at + high) w x → Block w at f → Block x at f
block_same w x at low high [] al i s h = tt
block_same w x at low high (y ∷ f) al i s h =
    let here = first_in low high y.0 (inside low high f) i in
    (s (at + y.0) (omega (arith, here.2, al)) (omega (arith, here.0)) (omega (arith, here.1)) ∙ h.0, block_same w x at low high f al here.3 s h.1)

pub put_here : (w : ℕ → ℕ) (at v : ℕ) → put w at v at ≡ v
put_here w at v = ap (λ b. cond b v (w at)) (eq-eqb at at refl)

pub put_other : (w : ℕ → ℕ) (at v a : ℕ) → (a ≡ at → ⊥) → put w at v a ≡ w a
put_other w at v a ne = ap (λ b. cond b v (w a)) (ne_eqb a at ne)

pub put_kept : (w : ℕ → ℕ) (at v low high : ℕ) → low ≤ at → at < high → SameOutside low high w (put w at v)
put_kept w at v low high le lt a al o = put_other w at v a (λ e. ⊎_elim (λ p. omega arith) (λ p. omega arith) o)

-- a store to a field of a block
pub block_put : (w : ℕ → ℕ) (at o v : ℕ) (f : Fields) → Block w at f → Block (put w (at + o) v) at (with_field f o v)
block_put w at o v [] h = tt
block_put w at o v (y ∷ f) h = (⊎_elim (λ e. here e) (λ ne. other ne) (cases_eq y.0 o), block_put w at o v f h.1)
  where
    here : y.0 ≡ o → put w (at + o) v (at + y.0) ≡ cond (nat_eq y.0 o) v y.1
    here e = ap (λ k. put w (at + o) v (at + k)) e ∙ put_here w (at + o) v ∙ sym (ap (λ b. cond b v y.1) (eq-eqb y.0 o e))

    other : (y.0 ≡ o → ⊥) → put w (at + o) v (at + y.0) ≡ cond (nat_eq y.0 o) v y.1
    other ne = put_other w (at + o) v (at + y.0) (λ e. ne (omega arith)) ∙ h.0 ∙ sym (ap (λ b. cond b v y.1) (ne_eqb y.0 o ne))

-- ---- tables

-- blocks of a table lie apart
apart : (size first i j : ℕ) → (j ≡ i → ⊥) → (first + size * j + size ≤ first + size * i) ⊎ (first + size * i + size ≤ first + size * j)
apart size first i j ne =
    ⊎_elim
    (λ lt. let e : size * suc j ≤ size * i = mul-le-mul_left size lt in inl (omega (arith, e)))
    (λ ge. let l : i < j = omega (arith, ge, ne) in let e : size * suc i ≤ size * j = mul-le-mul_left size l in inr (omega (arith, e)))
    (cases_lt j i)

module _ {X : Type 0} (first size : ℕ) (fields : ℕ → X → Fields) (none : X) (aligned : (i : ℕ) → (first + size * i) % 4 ≡ 0) (fit : (i : ℕ) (y : X) → inside 0 size (fields i y) ≡ true) where
  -- one block is written: the table has that element set
  pub rows_set : (w x : ℕ → ℕ) (xs : List X) (i : ℕ) (y : X) → i < length xs → SameOutside (first + size * i) (first + size * i + size) w x → Block x (first + size * i) (fields i y) → Rows w first size fields xs none → Rows x first size fields (slice_set xs i y) none
  rows_set w x xs i y lt out new old = λ j h.
      ⊎_elim
      (λ e. subst (λ k. Block x (first + size * k) (fields k (slice_index_or (slice_set xs i y) k none))) (sym e) (subst (λ z. Block x (first + size * i) (fields i z)) (sym (get_or-set_same xs i y none lt)) new))
      (λ ne. subst (λ z. Block x (first + size * j) (fields j z)) (sym (get_or-set_other xs i j y none ne))
      (block_same w x (first + size * j) 0 size _ (aligned j) (fit j _) (λ a al low high. out a al (⊎_elim (λ l. inl (omega (arith, l, high))) (λ l. inr (omega (arith, l, low))) (apart size first i j ne))) (old j (omega (arith, h, length-set xs i y)))))
      (cases_eq j i)

  -- nothing of the table is written
  pub rows_same : (w x : ℕ → ℕ) (xs : List X) (high : ℕ) → first + size * length xs ≤ high → Same first high w x → Rows w first size fields xs none → Rows x first size fields xs none
  rows_same w x xs high le s old = λ i lt.
      let e : size * suc i ≤ size * length xs = mul-le-mul_left size lt in
      block_same w x (first + size * i) 0 size _ (aligned i) (fit i _) (λ a al low up. s a al (omega (arith, low)) (omega (arith, up, e, le))) (old i lt)

-- ---- stacks

pub stack_same : (w x : ℕ → ℕ) (at high : ℕ) (xs : List ℕ) → at % 4 ≡ 0 → at + 4 * length xs ≤ high → Same at high w x → Stack w at xs → Stack x at xs
stack_same w x at high [] al le s h = tt
stack_same w x at high (y ∷ xs) al le s h = (s (at + 4 * length xs) (omega arith) (omega arith) (omega arith) ∙ h.0, stack_same w x at high xs al (omega arith) s h.1)

pub stack_one : (w : ℕ → ℕ) (at : ℕ) (xs ys : List ℕ) → length xs ≡ length ys → Stack w at xs → Stack w at ys → xs ≡ ys
stack_one w at [] [] e h k = refl
stack_one w at [] (y ∷ ys) e h k = absurd (omega arith)
stack_one w at (x ∷ xs) [] e h k = absurd (omega arith)
stack_one w at (x ∷ xs) (y ∷ ys) e h k =
    let len : length xs ≡ length ys = omega arith in
    let p : x ≡ y = sym h.0 ∙ ap (λ n. w (at + 4 * n)) len ∙ k.0 in
    let q : xs ≡ ys = stack_one w at xs ys len h.1 k.1 in
    λ i. p i ∷ q i

-- ---- lists by their elements

pub lists_one : {X : Type 0} (none : X) (xs ys : List X) → length xs ≡ length ys → ((k : ℕ) → k < length xs → slice_index_or xs k none ≡ slice_index_or ys k none) → xs ≡ ys
lists_one none xs ys len h =
    same_lists xs ys len
    (λ k d lt. get_or_default xs k d none lt ∙ h k lt ∙ sym (get_or_default ys k d none (omega arith)))
