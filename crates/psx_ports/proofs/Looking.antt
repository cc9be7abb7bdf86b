-- What a counter reckons from its setting: its value, and the first turn that brings it to a number, where the code has the clock as a power of 2.
use Rattle.std.proofs.Common.{◌≡◌, ℕ, ◌+◌, ◌-◌, ◌*◌, ◌/◌, ◌%◌, ◌^◌, ◌≤◌, ◌<◌, Bool, true, false, inl, inr, Option, Some, None, refl, sym, ap, subst, ◌∙◌, arith}
use Rattle.std.specs.Prelude.{not, ◌&&◌, ◌||◌, nat_eq, nat_le, IfSome, IfNone, SomeIff}
use native.Mathlib.Nat.{mul-le-mul_left, mul-one}
use Rattle.std.proofs.lemmas.Bool.{cases_lt}
use Rattle.std.proofs.lemmas.Bool.Decides.{nat_tests}
use Rattle.psx_ports.specs.Counter.{Setting, bit, clock, happens, value_at, meets, meets_target, meets_top, asks}
use Rattle.psx_ports.specs.Laps.{limit_of, lap, IsFirst, IsNever, IsFirstMeeting}
use Rattle.psx_ports.specs.KeptCounter.{KeptCounter, raises_line}
use Rattle.psx_ports.proofs.Happens.{happens-once, happens-never}
use Rattle.psx_ports.proofs.Reckoning.{after-turns, meets-not, meets-first, clock-small}

-- a setting of 16 bits, with its clock and its limit as the code has them
pub record Reckons (t : ℕ) (s : Setting) (c l : ℕ) : Type 0 where
  pub value : s.value ≤ 0xFFFF
  pub target : s.target ≤ 0xFFFF
  pub steps : c ≡ clock t s.mode
  pub limit : l ≡ limit_of s

module _ (t : ℕ) (s : Setting) (steps limit : ℕ) (r : Reckons t s steps limit) where
  pub value-reckoned : (count : ℕ) → lap s.value limit (count / steps - s.since / steps) ≡ value_at t s count
  unfolding value_at
  value-reckoned count = (λ i. lap s.value (r.limit i) (count / r.steps i - s.since / r.steps i)) ∙ sym (after-turns s (count / clock t s.mode - s.since / clock t s.mode) r.value r.target)

  pub never-reckoned : (x n : ℕ) → IsNever s.value limit x → s.since < n → meets t s x n ≡ false
  never-reckoned x n never later = meets-not t s x n r.value r.target later (λ k positive which is. never k positive (ap (λ l. lap s.value l k) r.limit ∙ is))

  pub first-reckoned : (x d : ℕ) → IsFirst s.value limit x d → IsFirstMeeting t s x ((s.since / steps + d) * steps)
  first-reckoned x d first =
      subst (λ c. IsFirstMeeting t s x ((s.since / c + d) * c)) (sym r.steps) (meets-first t s x d r.value r.target (subst (λ l. IsFirst s.value l x d) r.limit first))

-- the same of a counter seen open, where the code has its fields
module _ (k k' : KeptCounter) (same : k' ≡ k) (c l : ℕ) (value : k'.setting.value ≤ 0xFFFF) (target : k'.setting.target ≤ 0xFFFF) (steps : c ≡ clock k.number k.setting.mode) (limit : l ≡ limit_of k.setting) where
  reckons : Reckons k.number k.setting c l
  reckons = record { value = subst (λ (k : KeptCounter). k.setting.value ≤ 0xFFFF) same value; target = subst (λ (k : KeptCounter). k.setting.target ≤ 0xFFFF) same target; steps = steps; limit = limit }

  pub value-open : (count r : ℕ) → r ≡ lap k'.setting.value l (count / c - k'.setting.since / c) → r ≡ value_at k.number k.setting count
  value-open count r is = subst (λ (k : KeptCounter). r ≡ lap k.setting.value l (count / c - k.setting.since / c)) same is ∙ value-reckoned k.number k.setting c l reckons count

  pub never-open : (x n : ℕ) → IsNever k'.setting.value l x → k.setting.since < n → meets k.number k.setting x n ≡ false
  never-open x n never later = never-reckoned k.number k.setting c l reckons x n (subst (λ (k : KeptCounter). IsNever k.setting.value l x) same never) later

  pub first-open : (x d q c' : ℕ) → IsFirst k'.setting.value l x d → q ≡ k'.setting.since / c + d → c' ≡ c → IsFirstMeeting k.number k.setting x (q * c')
  first-open x d q c' first is at =
      subst (λ p. IsFirstMeeting k.number k.setting x (p * c')) (sym (subst (λ (k : KeptCounter). q ≡ k.setting.since / c + d) same is))
      (subst (λ p. IsFirstMeeting k.number k.setting x ((k.setting.since / c + d) * p)) (sym at)
      (first-reckoned k.number k.setting c l reckons x d (subst (λ (k : KeptCounter). IsFirst k.setting.value l x d) same first)))

-- the first turn, where its count is below 2^64
pub first-found : (t : ℕ) (s : Setting) (x q c : ℕ) (found : Option ℕ) → IsFirstMeeting t s x (q * c) → SomeIff found (q * c < 2 ^ 64) (q * c) → IfSome found (IsFirstMeeting t s x)
first-found t s x q c None first is = tt
first-found t s x q c (Some n) first is = subst (IsFirstMeeting t s x) (sym is.1) first

pub first-past : (t : ℕ) (s : Setting) (x q c : ℕ) (found : Option ℕ) → IsFirstMeeting t s x (q * c) → SomeIff found (q * c < 2 ^ 64) (q * c)
    → IfNone found ((n : ℕ) → s.since < n → n < 2 ^ 64 → meets t s x n ≡ false)
first-past t s x q c (Some n) first is = tt
first-past t s x q c None first is = λ n later below. elim (cases_lt (q * c) (2 ^ 64)) [
  | inl fits ↦ absurd (is fits)
  | inr past ↦ first.not_before n later (omega arith)
]

pub first-far : (t : ℕ) (s : Setting) (x q c n : ℕ) → IsFirstMeeting t s x (q * c) → 0 < c → 2 ^ 64 ≤ q → s.since < n → n < 2 ^ 64 → meets t s x n ≡ false
first-far t s x q c n first positive far later below =
    let up = mul-le-mul_left {m = 1} {n = c} q positive in
    let one = mul-one q in
    first.not_before n later (omega arith)

-- whether it is up to a count
pub met-some : (t : ℕ) (s : Setting) (x first count : ℕ) → IsFirstMeeting t s x first → nat_le first count ≡ happens (meets t s x) s.since count
met-some t s x first count is = elim (cases_lt count first) [
  | inl before ↦ (let no : nat_le first count ≡ false = grind (arith, nat_tests) in no) ∙ sym (happens-never (meets t s x) s.since count (λ n a b. is.not_before n a (omega arith)))
  | inr up ↦ (let so : nat_le first count ≡ true = grind (arith, nat_tests) in so) ∙ sym (happens-once (meets t s x) s.since count first is.later up is.there)
]

pub met-none : (t : ℕ) (s : Setting) (x count : ℕ) → count < 2 ^ 64 → ((n : ℕ) → s.since < n → n < 2 ^ 64 → meets t s x n ≡ false) → false ≡ happens (meets t s x) s.since count
met-none t s x count fits none = sym (happens-never (meets t s x) s.since count (λ n a b. none n a (omega arith)))

-- a target 0 is met by no turn
pub target-none : (k k' : KeptCounter) → k' ≡ k → k'.setting.target ≡ 0 → (count : ℕ) → not (nat_eq k'.setting.target 0) ≡ happens (meets_target k.number k.setting) k.setting.since count
target-none k k' same zero count =
    ap (λ t. not (nat_eq t 0)) zero
    ∙ sym (happens-never (meets_target k.number k.setting) k.setting.since count (λ n a b. ap (λ t. not (nat_eq t 0) && meets k.number k.setting t n) (subst (λ (k : KeptCounter). k.setting.target ≡ 0) same zero)))

-- a line is raised by no turn that doesn't ask, and not twice by a counter that raises it once
pub quiet-armed : (k : KeptCounter) (n : ℕ) → (bit k.setting.mode 4 && meets_target k.number k.setting n) ≡ false → (bit k.setting.mode 5 && meets_top k.number k.setting n) ≡ false → raises_line k n ≡ false
unfolding raises_line asks
quiet-armed k n target top = λ i. (target i || top i) && (bit k.setting.mode 6 || not (k.asked || happens (asks k.number k.setting) k.setting.since (n - 1)))

none : (a b c d : Bool) → (b || not c) ≡ false → (a && (b || not (c || d))) ≡ false
none true true c d e = e
none true false true d e = refl
none true false false d e = absurd (cc)
none false b c d e = refl

pub quiet-disarmed : (k : KeptCounter) (n : ℕ) → (bit k.setting.mode 6 || not k.asked) ≡ false → raises_line k n ≡ false
unfolding raises_line
quiet-disarmed k n off = none (asks k.number k.setting n) (bit k.setting.mode 6) k.asked (happens (asks k.number k.setting) k.setting.since (n - 1)) off

-- 1 << shift
pub one-shifted : (t mode c : ℕ) → c ≡ clock t mode → 1 * c % 2 ^ 64 ≡ c
one-shifted t mode c is = let small = clock-small t mode in omega arith
