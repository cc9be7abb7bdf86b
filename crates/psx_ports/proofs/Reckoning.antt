-- A counter's value reckoned in laps, from an earlier count or a later one, and the first turn that brings it to a number.
use Rattle.std.proofs.Common.{◌≡◌, ◌≢◌, ℕ, zero, suc, ◌+◌, ◌-◌, ◌*◌, ◌/◌, ◌%◌, ◌≤◌, ◌<◌, Bool, true, false, ◌⊎◌, inl, inr, refl, sym, ap, ap₂, subst, ◌∙◌, arith, add-zero, mod-eq_of_lt}
use Rattle.std.specs.Prelude.{not, ◌&&◌, ◌||◌, nat_eq, nat_lt, nat_le, if◌then◌else◌}
use native.Mathlib.Nat.{mod-eq-sub-mod, mod-add-mod, div-mul-le_self, mul-mod_left, mul-div_left, mul-le-mul_right, div-add-mod', suc-mul}
use Rattle.std.proofs.lemmas.Nat.{le-div}
use Rattle.std.proofs.lemmas.Bool.{cases_lt, eqb-true, eq-eqb}
use Rattle.std.proofs.lemmas.Bool.Decides.{nat_tests, eqb_tells}
use Rattle.psx_ports.specs.Counter.{Setting, IsTurnByTurn, turn, bit, resets, after_turns, value_at, clock, meets}
use Rattle.psx_ports.specs.Laps.{limit_of, top_of, lap, IsFirst, IsNever, IsFirstMeeting}

-- ---- the top of the first lap

pub top-cases : (v l : ℕ) → ((v ≤ l) × (top_of v l ≡ l)) ⊎ ((l < v) × (top_of v l ≡ 0xFFFF))
top-cases v l = elim (cases_lt l v) [
  | inl above ↦ inr (above, grind (arith, nat_tests))
  | inr below ↦ inl (below, grind (arith, nat_tests))
]

pub top-above : (v l : ℕ) → v ≤ 0xFFFF → v ≤ top_of v l
top-above v l small = elim (top-cases v l) [ inl a ↦ omega arith | inr a ↦ omega arith ]

-- the value by its lap
pub lap-first : (v l k : ℕ) → v + k ≤ top_of v l → lap v l k ≡ v + k
unfolding lap
lap-first v l k h = grind (arith, nat_tests)

pub lap-later : (v l k : ℕ) → top_of v l < v + k → lap v l k ≡ (v + k - (top_of v l + 1)) % (l + 1)
unfolding lap
lap-later v l k h = grind (arith, nat_tests)

-- the laps are the rule of the definition
closed : (r : Bool) (v t k : ℕ) → v ≤ 0xFFFF → t ≤ 0xFFFF →
    (if r && nat_le v t then (v + k) % (t + 1) else (if nat_lt (v + k) 0x10000 then v + k else (if r then (v + k - 0x10000) % (t + 1) else (v + k - 0x10000) % 0x10000)))
    ≡ lap v (if r then t else 0xFFFF) k
closed true v t k small low = elim (top-cases v t) [
  | inl (below, top) ↦ elim (cases_lt (top_of v t) (v + k)) [
    | inl past ↦ grind (arith, nat_tests, lap-later v t k past, mod-eq-sub-mod)
    | inr within ↦ grind (arith, nat_tests, lap-first v t k within, mod-eq_of_lt)
  ]
  | inr (above, top) ↦ elim (cases_lt (top_of v t) (v + k)) [
    | inl past ↦ grind (arith, nat_tests, lap-later v t k past)
    | inr within ↦ grind (arith, nat_tests, lap-first v t k within)
  ]
]
closed false v t k small low = elim (top-cases v 0xFFFF) [
  | inl (below, top) ↦ elim (cases_lt (top_of v 0xFFFF) (v + k)) [
    | inl past ↦ grind (arith, nat_tests, lap-later v 0xFFFF k past)
    | inr within ↦ grind (arith, nat_tests, lap-first v 0xFFFF k within)
  ]
  | inr (above, top) ↦ absurd (omega arith)
]

pub after-turns : (s : Setting) (k : ℕ) → s.value ≤ 0xFFFF → s.target ≤ 0xFFFF → after_turns s k ≡ lap s.value (limit_of s) k
unfolding after_turns
after-turns s k small low = closed (resets s) s.value s.target k small low

-- laps after laps
pub lap-small : (v l k : ℕ) → v ≤ 0xFFFF → l ≤ 0xFFFF → lap v l k ≤ 0xFFFF
lap-small v l k small low = elim (cases_lt (top_of v l) (v + k)) [
  | inl past ↦ subst (λ x. x ≤ 0xFFFF) (sym (lap-later v l k past)) (omega arith)
  | inr within ↦ subst (λ x. x ≤ 0xFFFF) (sym (lap-first v l k within)) (elim (top-cases v l) [ inl a ↦ omega arith | inr a ↦ omega arith ])
]

top-on : (v l j : ℕ) → v + j ≤ top_of v l → top_of (v + j) l ≡ top_of v l
top-on v l j within = elim (top-cases v l) [
  | inl (below, top) ↦ elim (top-cases (v + j) l) [ inl b ↦ omega arith | inr b ↦ absurd (omega arith) ]
  | inr (above, top) ↦ elim (top-cases (v + j) l) [ inl b ↦ absurd (omega arith) | inr b ↦ omega arith ]
]

top-low : (v l : ℕ) → v ≤ l → top_of v l ≡ l
top-low v l h = elim (top-cases v l) [ inl b ↦ b.1 | inr b ↦ absurd (omega arith) ]

pub lap-add : (v l j k : ℕ) → lap (lap v l j) l k ≡ lap v l (j + k)
lap-add v l j k = elim (cases_lt (top_of v l) (v + j)) [
  | inr within ↦
      let top = top-on v l j within in
      ap (λ w. lap w l k) (lap-first v l j within) ∙ elim (cases_lt (top_of v l) (v + j + k)) [
        | inl past ↦ lap-later (v + j) l k (omega arith) ∙ ap₂ (λ a b. (a - (b + 1)) % (l + 1)) (let e : v + j + k ≡ v + (j + k) = omega arith in e) top ∙ sym (lap-later v l (j + k) (omega arith))
        | inr on ↦ lap-first (v + j) l k (omega arith) ∙ (let e : v + j + k ≡ v + (j + k) = omega arith in e) ∙ sym (lap-first v l (j + k) (omega arith))
      ]
  | inl past ↦
      let rest = v + j - (top_of v l + 1) in
      let low : rest % (l + 1) ≤ l = omega arith in
      let top = top-low (rest % (l + 1)) l low in
      let whole : lap v l (j + k) ≡ (rest % (l + 1) + k) % (l + 1) =
      lap-later v l (j + k) (omega arith) ∙ ap (λ a. a % (l + 1)) (let e : v + (j + k) - (top_of v l + 1) ≡ rest + k = omega arith in e) ∙ sym (mod-add-mod rest (l + 1) k) in
      ap (λ w. lap w l k) (lap-later v l j past) ∙ elim (cases_lt l (rest % (l + 1) + k)) [
        | inl beyond ↦ lap-later (rest % (l + 1)) l k (omega arith) ∙ ap (λ a. (rest % (l + 1) + k - (a + 1)) % (l + 1)) top ∙ sym (mod-eq-sub-mod (omega arith)) ∙ sym whole
        | inr on ↦ lap-first (rest % (l + 1)) l k (omega arith) ∙ sym (mod-eq_of_lt (omega arith)) ∙ sym whole
      ]
]

-- ---- the first lap value that is x

-- in the first lap
pub is-first-on : (v l x : ℕ) → v ≤ 0xFFFF → l ≤ 0xFFFF → v < x → x ≤ top_of v l → IsFirst v l x (x - v)
is-first-on v l x small low above within = record {
  positive = omega arith;
  small = elim (top-cases v l) [ inl a ↦ omega arith | inr a ↦ omega arith ];
  there = lap-first v l (x - v) (omega arith) ∙ (let e : v + (x - v) ≡ x = omega arith in e);
  not_before = λ k p q is. let e : v + k ≡ x = sym (lap-first v l k (omega arith)) ∙ is in absurd (omega arith);
}

-- in the second lap
pub is-first-later : (v l x : ℕ) → v ≤ 0xFFFF → l ≤ 0xFFFF → (v < x → top_of v l < x) → x ≤ l → IsFirst v l x (top_of v l - v + 1 + x)
is-first-later v l x small low not_on within =
    let reach : (v ≤ top_of v l) × (top_of v l ≤ 0xFFFF) × (l ≤ top_of v l) = elim (top-cases v l) [ inl a ↦ (omega arith, omega arith, omega arith) | inr a ↦ (omega arith, omega arith, omega arith) ] in
    let below : x ≤ v = elim (cases_lt v x) [ inl a ↦ let b = not_on a in absurd (omega arith) | inr a ↦ a ] in
    record {
      positive = omega arith;
      small = omega arith;
      there = lap-later v l (top_of v l - v + 1 + x) (omega arith) ∙ ap (λ a. a % (l + 1)) (let e : v + (top_of v l - v + 1 + x) - (top_of v l + 1) ≡ x = omega arith in e) ∙ mod-eq_of_lt (omega arith);
      not_before = λ k p q is. elim (cases_lt (top_of v l) (v + k)) [
        | inl past ↦ let e : v + k - (top_of v l + 1) ≡ x = sym (mod-eq_of_lt (let f : v + k - (top_of v l + 1) < l + 1 = omega arith in f)) ∙ sym (lap-later v l k past) ∙ is in absurd (omega arith)
        | inr on ↦ let e : v + k ≡ x = sym (lap-first v l k on) ∙ is in absurd (omega arith)
      ];
    }

pub is-never : (v l x : ℕ) → (v < x → top_of v l < x) → l < x → IsNever v l x
is-never v l x not_on beyond k p is = elim (cases_lt (top_of v l) (v + k)) [
  | inl past ↦ let e = sym (lap-later v l k past) ∙ is in absurd (omega arith)
  | inr on ↦
      let e : v + k ≡ x = sym (lap-first v l k on) ∙ is in
      let b : top_of v l < x = not_on (omega arith) in
      absurd (omega arith)
]

-- ---- by counts

either : (b : Bool) (n : ℕ) → 0 < n → 0 < (if b then n else 1)
either true n h = h
either false n h = omega arith

pub clock-positive : (t mode : ℕ) → 0 < clock t mode
clock-positive zero mode = either (bit mode 8) 8 (omega arith)
clock-positive (suc zero) mode = either (bit mode 8) 2048 (omega arith)
clock-positive (suc (suc t)) mode = either (bit mode 9) 8 (omega arith)

capped : (b : Bool) (n : ℕ) → n ≤ 2048 → (if b then n else 1) ≤ 2048
capped true n h = h
capped false n h = omega arith

pub clock-small : (t mode : ℕ) → clock t mode ≤ 2048
clock-small zero mode = capped (bit mode 8) 8 (omega arith)
clock-small (suc zero) mode = capped (bit mode 8) 2048 (omega arith)
clock-small (suc (suc t)) mode = capped (bit mode 9) 8 (omega arith)

pub div-mono : (c m n : ℕ) → 0 < c → m ≤ n → m / c ≤ n / c
div-mono c m n positive h = le-div (m / c) n c positive (omega (arith, div-mul-le_self m c))

limit-small : (r : Bool) (t : ℕ) → t ≤ 0xFFFF → (if r then t else 0xFFFF) ≤ 0xFFFF
limit-small true t h = h
limit-small false t h = omega arith

-- the setting as of a later count
pub value-since : (t : ℕ) (s : Setting) (m n : ℕ) → s.value ≤ 0xFFFF → s.target ≤ 0xFFFF → s.since ≤ m → m ≤ n →
    value_at t (record s { value = value_at t s m; since = m }) n ≡ value_at t s n
unfolding value_at
value-since t s m n small low h k =
    let c = clock t s.mode in
    let a = div-mono c s.since m (clock-positive t s.mode) h in
    let b = div-mono c m n (clock-positive t s.mode) k in
    let j = m / c - s.since / c in
    let reached : after_turns s j ≡ lap s.value (limit_of s) j = after-turns s j small low in
    let limit_low : limit_of s ≤ 0xFFFF = limit-small (resets s) s.target low in
    let later : after_turns s j ≤ 0xFFFF = subst (λ x. x ≤ 0xFFFF) (sym reached) (lap-small s.value (limit_of s) j small limit_low) in
    after-turns (record s { value = after_turns s j; since = m }) (n / c - m / c) later low
    ∙ ap (λ w. lap w (limit_of s) (n / c - m / c)) reached
    ∙ lap-add s.value (limit_of s) j (n / c - m / c)
    ∙ ap (lap s.value (limit_of s)) (let e : j + (n / c - m / c) ≡ n / c - s.since / c = omega arith in e)
    ∙ sym (after-turns s (n / c - s.since / c) small low)

-- a turn to x, by the laps
unless : (a b : Bool) → (a ≡ true → b ≡ false) → (a && b) ≡ false
unless true b h = h refl
unless false b h = refl

eq-false : (a b : ℕ) → a ≢ b → nat_eq a b ≡ false
eq-false a b h = elim (eqb_tells a b) [ inl e ↦ absurd (h e.1) | inr e ↦ e.0 ]

-- a count with a turn is later than another exactly by turns
turn-later : (c since m : ℕ) → 0 < c → since < m → m % c ≡ 0 → since / c < m / c
turn-later c since m positive h turn =
    elim (cases_lt (since / c) (m / c)) [
      | inl below ↦ below
      | inr not ↦
          let up = mul-le-mul_right c not in
          let whole = div-add-mod' m c in
          let part = div-mul-le_self since c in
          absurd (omega arith)
    ]

turn-earlier : (c q m : ℕ) → 0 < c → m < q * c → m / c < q
turn-earlier c q m positive h =
    elim (cases_lt (m / c) q) [
      | inl below ↦ below
      | inr not ↦
          let up = mul-le-mul_right c not in
          let part = div-mul-le_self m c in
          absurd (omega arith)
    ]

turn-after : (c since d : ℕ) → 0 < c → 0 < d → since < (since / c + d) * c
turn-after c since d positive some =
    let up = mul-le-mul_right {m = suc (since / c)} {n = since / c + d} c (omega arith) in
    let one = suc-mul (since / c) c in
    let whole = div-add-mod' since c in
    let rest : since % c < c = omega arith in
    omega arith

pub meets-not : (t : ℕ) (s : Setting) (x m : ℕ) → s.value ≤ 0xFFFF → s.target ≤ 0xFFFF → s.since < m
    → ((k : ℕ) → 0 < k → k ≡ m / clock t s.mode - s.since / clock t s.mode → lap s.value (limit_of s) k ≢ x) → meets t s x m ≡ false
unfolding meets value_at
meets-not t s x m small low later not =
    let c = clock t s.mode in
    unless (nat_eq (m % c) 0) (nat_eq (after_turns s (m / c - s.since / c)) x) (λ turn.
    let above = turn-later c s.since m (clock-positive t s.mode) later (eqb-true (m % c) 0 turn) in
    eq-false (after_turns s (m / c - s.since / c)) x (λ is. not (m / c - s.since / c) (omega arith) refl (sym (after-turns s (m / c - s.since / c) small low) ∙ is)))

pub meets-first : (t : ℕ) (s : Setting) (x d : ℕ) → s.value ≤ 0xFFFF → s.target ≤ 0xFFFF → IsFirst s.value (limit_of s) x d
    → IsFirstMeeting t s x ((s.since / clock t s.mode + d) * clock t s.mode)
unfolding meets value_at
meets-first t s x d small low first =
    let c = clock t s.mode in
    let positive = clock-positive t s.mode in
    let q = s.since / c + d in
    let turns : q * c / c ≡ q = mul-div_left q positive in
    record {
      later =
          turn-after c s.since d positive first.positive;
      there = ap₂ ◌&&◌ (eq-eqb (q * c % c) 0 (mul-mod_left q c)) (eq-eqb (after_turns s (q * c / c - s.since / c)) x
          (ap (λ n. after_turns s (n - s.since / c)) turns ∙ ap (after_turns s) (let e : q - s.since / c ≡ d = omega arith in e) ∙ after-turns s d small low ∙ first.there));
      not_before = λ m after before. meets-not t s x m small low after (λ k p is. let below = turn-earlier c q m positive before in first.not_before k p (omega arith));
    }

pub value-now : (t : ℕ) (s : Setting) → s.value ≤ 0xFFFF → s.target ≤ 0xFFFF → value_at t s s.since ≡ s.value
unfolding value_at
value-now t s small low =
    ap (after_turns s) (let e : s.since / clock t s.mode - s.since / clock t s.mode ≡ 0 = omega arith in e) ∙ after-turns s 0 small low
    ∙ (lap-first s.value (limit_of s) 0 (elim (top-cases s.value (limit_of s)) [ inl a ↦ omega arith | inr a ↦ omega arith ]) ∙ add-zero s.value)

-- ---- one turn

-- a lap's end
ends : (w l : ℕ) → top_of w l < w + 1 → w ≤ 0xFFFF → l ≤ 0xFFFF → lap w l 1 ≡ 0
ends w l past small low =
    let high = top-above w l small in
    lap-later w l 1 past ∙ ap (λ n. n % (l + 1)) (let e : w + 1 - (top_of w l + 1) ≡ 0 = omega arith in e) ∙ mod-eq_of_lt (omega arith)

lap-once : (w l : ℕ) → w ≤ 0xFFFF → l ≤ 0xFFFF → lap w l 1 ≡ (if nat_eq w 0xFFFF || nat_eq w l then 0 else w + 1)
lap-once w l small low = elim (top-cases w l) [
  | inl (below, top) ↦ elim (cases_lt w l) [
    | inl less ↦ grind (arith, nat_tests, lap-first w l 1)
    | inr at ↦ grind (arith, nat_tests, ends w l)
  ]
  | inr (above, top) ↦ elim (cases_lt w 0xFFFF) [
    | inl less ↦ grind (arith, nat_tests, lap-first w l 1)
    | inr at ↦ grind (arith, nat_tests, ends w l)
  ]
]

either_end : (r : Bool) (w t : ℕ) → (nat_eq w 0xFFFF || nat_eq w (if r then t else 0xFFFF)) ≡ (nat_eq w 0xFFFF || (r && nat_eq w t))
either_end true w t = refl
either_end false w t = twice (nat_eq w 0xFFFF) where
  twice : (b : Bool) → (b || b) ≡ (b || false)
  twice true = refl
  twice false = refl

pub turn-by-turn : (s : Setting) → s.value ≤ 0xFFFF → s.target ≤ 0xFFFF → IsTurnByTurn s
turn-by-turn s small low =
    let l = limit_of s in
    let limit_low : l ≤ 0xFFFF = limit-small (resets s) s.target low in
    record {
      first = after-turns s 0 small low ∙ lap-first s.value l 0 (let high = top-above s.value l small in omega arith) ∙ add-zero s.value;
      next = λ k.
          let w = lap s.value l k in
          after-turns s (k + 1) small low ∙ sym (lap-add s.value l k 1) ∙ lap-once w l (lap-small s.value l k small limit_low) limit_low
          ∙ ap (λ b. if b then 0 else w + 1) (either_end (resets s) w s.target) ∙ ap (turn s) (sym (after-turns s k small low));
    }
