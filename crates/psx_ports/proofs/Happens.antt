-- What holds of some count between two counts.
use Rattle.std.proofs.Common.{◌≡◌, ℕ, zero, suc, ◌-◌, ◌≤◌, ◌<◌, Bool, true, false, inl, inr, refl, sym, ap, ap₂, ◌∙◌, arith}
use Rattle.std.specs.Prelude.{not, ◌&&◌, ◌||◌, nat_lt}
use Rattle.std.proofs.lemmas.Bool.{cases_lt}
use Rattle.std.proofs.lemmas.Bool.Decides.{nat_tests}
use Rattle.psx_ports.specs.Counter.{happens}

pub lt-true : (m n : ℕ) → m < n → nat_lt m n ≡ true
lt-true m n h = grind (arith, nat_tests)

pub lt-false : (m n : ℕ) → n ≤ m → nat_lt m n ≡ false
lt-false m n h = grind (arith, nat_tests)

or_false : (x : Bool) → (x || false) ≡ x
or_false true = refl
or_false false = refl

or_swap : (x u v : Bool) → (u || (x || v)) ≡ (x || (u || v))
or_swap true true v = refl
or_swap true false v = refl
or_swap false u v = refl

-- one count more
step : (p : ℕ → Bool) (from to : ℕ) → from ≤ to → happens p from (suc to) ≡ (p (suc to) || happens p from to)
unfolding happens
step p from to h = ap (λ b. (b && p (suc to)) || happens p from to) (lt-true from (suc to) (omega arith))

pub happens-empty : (p : ℕ → Bool) (from to : ℕ) → to ≤ from → happens p from to ≡ false
unfolding happens
happens-empty p from zero h = refl
happens-empty p from (suc to) h =
    ap (λ b. (b && p (suc to)) || happens p from to) (lt-false from (suc to) h) ∙ happens-empty p from to (omega arith)

pub happens-split : (p : ℕ → Bool) (a b c : ℕ) → a ≤ b → b ≤ c → happens p a c ≡ (happens p a b || happens p b c)
happens-split p a b zero h k = happens-empty p a 0 (omega arith) ∙ sym (ap₂ ◌||◌ (happens-empty p a b (omega arith)) (happens-empty p b 0 (omega arith)))
happens-split p a b (suc c) h k = elim (cases_lt b (suc c)) [
  | inl below ↦ step p a c (omega arith) ∙ ap (λ x. p (suc c) || x) (happens-split p a b c h (omega arith))
      ∙ or_swap (happens p a b) (p (suc c)) (happens p b c) ∙ ap (λ x. happens p a b || x) (sym (step p b c (omega arith)))
  | inr at ↦ ap (happens p a) (let e : suc c ≡ b = omega arith in e) ∙ sym (ap (λ x. happens p a b || x) (happens-empty p b (suc c) at) ∙ or_false (happens p a b))
]

pub happens-same : (p q : ℕ → Bool) (from to : ℕ) → ((n : ℕ) → from < n → n ≤ to → p n ≡ q n) → happens p from to ≡ happens q from to
unfolding happens
happens-same p q from zero same = refl
happens-same p q from (suc to) same = elim (cases_lt from (suc to)) [
  | inl below ↦ step p from to (omega arith) ∙ ap₂ ◌||◌ (same (suc to) below (omega arith)) (happens-same p q from to (λ n a b. same n a (omega arith))) ∙ sym (step q from to (omega arith))
  | inr at ↦ happens-empty p from (suc to) at ∙ sym (happens-empty q from (suc to) at)
]

never : (from to : ℕ) → happens (λ n. false) from to ≡ false
unfolding happens
never from zero = refl
never from (suc to) = elim (cases_lt from (suc to)) [
  | inl below ↦ step (λ n. false) from to (omega arith) ∙ never from to
  | inr at ↦ happens-empty (λ n. false) from (suc to) at
]

pub happens-never : (p : ℕ → Bool) (from to : ℕ) → ((n : ℕ) → from < n → n ≤ to → p n ≡ false) → happens p from to ≡ false
happens-never p from to none = happens-same p (λ n. false) from to none ∙ never from to

pub happens-once : (p : ℕ → Bool) (from to n : ℕ) → from < n → n ≤ to → p n ≡ true → happens p from to ≡ true
happens-once p from zero n a b is = absurd (omega arith)
happens-once p from (suc to) n a b is = elim (cases_lt n (suc to)) [
  | inl below ↦ step p from to (omega arith) ∙ ap (λ x. p (suc to) || x) (happens-once p from to n a (omega arith) is) ∙ or_true (p (suc to))
  | inr at ↦ step p from to (omega arith) ∙ ap (λ x. x || happens p from to) (ap p (let e : suc to ≡ n = omega arith in e) ∙ is)
] where
  or_true : (x : Bool) → (x || true) ≡ true
  or_true true = refl
  or_true false = refl

-- of each and of any
pub happens-and : (b : Bool) (p : ℕ → Bool) (from to : ℕ) → happens (λ n. b && p n) from to ≡ (b && happens p from to)
happens-and true p from to = refl
happens-and false p from to = never from to

mix : (x y u v : Bool) → ((x || y) || (u || v)) ≡ ((x || u) || (y || v))
mix true y u v = refl
mix false true true v = refl
mix false true false v = refl
mix false false u v = refl

pub happens-or : (p q : ℕ → Bool) (from to : ℕ) → happens (λ n. p n || q n) from to ≡ (happens p from to || happens q from to)
unfolding happens
happens-or p q from zero = refl
happens-or p q from (suc to) = elim (cases_lt from (suc to)) [
  | inl below ↦ step (λ n. p n || q n) from to (omega arith) ∙ ap (λ x. (p (suc to) || q (suc to)) || x) (happens-or p q from to)
      ∙ mix (p (suc to)) (q (suc to)) (happens p from to) (happens q from to) ∙ sym (ap₂ ◌||◌ (step p from to (omega arith)) (step q from to (omega arith)))
  | inr at ↦ happens-empty (λ n. p n || q n) from (suc to) at ∙ sym (ap₂ ◌||◌ (happens-empty p from (suc to) at) (happens-empty q from (suc to) at))
]

-- the first of several
first : (q S a : Bool) → ((q && not (a || S)) || (S && not a)) ≡ ((q || S) && not a)
first true true true = refl
first true true false = refl
first true false true = refl
first true false false = refl
first false true true = refl
first false true false = refl
first false false true = refl
first false false false = refl

pub happens-first : (q : ℕ → Bool) (each a : Bool) (from to : ℕ) → happens (λ n. q n && (each || not (a || happens q from (n - 1)))) from to ≡ (happens q from to && (each || not a))
unfolding happens
happens-first q true a from to = happens-same (λ n. q n && true) q from to (λ n l m. and_true (q n)) ∙ sym (and_true (happens q from to)) where
  and_true : (x : Bool) → (x && true) ≡ x
  and_true true = refl
  and_true false = refl
happens-first q false a from zero = refl
happens-first q false a from (suc to) = elim (cases_lt from (suc to)) [
  | inl below ↦ step (λ n. q n && not (a || happens q from (n - 1))) from to (omega arith)
      ∙ ap₂ (λ m x. (q (suc to) && not (a || happens q from m)) || x) (let e : suc to - 1 ≡ to = omega arith in e) (happens-first q false a from to)
      ∙ first (q (suc to)) (happens q from to) a ∙ sym (ap (λ x. x && not a) (step q from to (omega arith)))
  | inr at ↦ happens-empty (λ n. q n && not (a || happens q from (n - 1))) from (suc to) at ∙ sym (ap (λ x. x && not a) (happens-empty q from (suc to) at))
]
