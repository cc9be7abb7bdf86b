-- A counter that keeps no accesses follows them: when its turns are made, and at each access.
use Rattle.std.proofs.Common.{◌≡◌, ℕ, ◌+◌, ◌-◌, ◌%◌, ◌^◌, ◌≤◌, ◌<◌, Bool, true, false, List, ◌∷◌, refl, sym, ap, ap₂, subst, ◌∙◌, arith}
use Rattle.std.specs.Prelude.{not, ◌&&◌, ◌||◌, nat_eq, if◌then◌else◌}
use Rattle.psx_ports.specs.Counter.{Setting, Act, SetValue, SetMode, SetTarget, TakeMode, time, bit, happens, clock, value_at, setting, meets, meets_target, meets_top, asks, uses_mode, writes_mode, since_last, reached_target, reached_top, mode_word, asked, raises}
use Rattle.psx_ports.specs.KeptCounter.{KeptCounter, raises_line, Follows, IsAhead}
use Rattle.psx_ports.proofs.Happens.{happens-empty, happens-split, happens-same, happens-never, happens-and, happens-or, happens-first}
use Rattle.psx_ports.proofs.Reckoning.{value-since, value-now}

-- ---- settings that agree at a count

record Agrees (t : ℕ) (s s' : Setting) (n : ℕ) : Type 0 where
  mode : s.mode ≡ s'.mode
  target : s.target ≡ s'.target
  value : value_at t s n ≡ value_at t s' n

meets-as : (t x : ℕ) (s s' : Setting) (n : ℕ) → Agrees t s s' n → meets t s x n ≡ meets t s' x n
unfolding meets
meets-as t x s s' n a = λ i. nat_eq (n % clock t (a.mode i)) 0 && nat_eq (a.value i) x

target-as : (t : ℕ) (s s' : Setting) (n : ℕ) → Agrees t s s' n → meets_target t s n ≡ meets_target t s' n
target-as t s s' n a = (λ i. not (nat_eq (a.target i) 0) && meets t s (a.target i) n) ∙ ap (λ b. not (nat_eq s'.target 0) && b) (meets-as t s'.target s s' n a)

asks-as : (t : ℕ) (s s' : Setting) (n : ℕ) → Agrees t s s' n → asks t s n ≡ asks t s' n
unfolding asks
asks-as t s s' n a = λ i. (bit (a.mode i) 4 && target-as t s s' n a i) || (bit (a.mode i) 5 && meets-as t 0xFFFF s s' n a i)

-- ---- turns that are made

-- what a counter keeps once its turns up to a count are made
abbrev pub settled : KeptCounter → ℕ → KeptCounter
settled k now = record k {
  setting = record k.setting { value = value_at k.number k.setting now; since = now };
  target = k.target || happens (meets_target k.number k.setting) k.setting.since now;
  top = k.top || happens (meets_top k.number k.setting) k.setting.since now;
  asked = k.asked || happens (asks k.number k.setting) k.setting.since now;
}

or_assoc : (f a b : Bool) → ((f || a) || b) ≡ (f || (a || b))
or_assoc true a b = refl
or_assoc false a b = refl

flag-settled : (p p' : ℕ → Bool) (f : Bool) (since now n : ℕ) → since ≤ now → now ≤ n → ((c : ℕ) → now < c → c ≤ n → p' c ≡ p c)
    → ((f || happens p since now) || happens p' now n) ≡ (f || happens p since n)
flag-settled p p' f since now n h k same =
    or_assoc f (happens p since now) (happens p' now n)
    ∙ ap (λ b. f || (happens p since now || b)) (happens-same p' p now n same)
    ∙ ap (λ b. f || b) (sym (happens-split p since now n h k))

module _ (k : KeptCounter) (small : k.setting.value ≤ 0xFFFF) (low : k.setting.target ≤ 0xFFFF) where
  settled-agrees : (now n : ℕ) → k.setting.since ≤ now → now ≤ n → Agrees k.number (settled k now).setting k.setting n
  settled-agrees now n h l = record { mode = refl; target = refl; value = value-since k.number k.setting now n small low h l }

  pub follows-settled : (acts : List Act) (m now : ℕ) → Follows k acts m → m ≤ now → Follows (settled k now) acts now
  follows-settled acts m now f h =
      let t = k.number in
      let from : k.setting.since ≤ now = omega (arith, f.since) in
      record {
        latest = omega (arith, f.latest);
        since = omega arith;
        mode = f.mode;
        target = f.target;
        value = λ n l. (settled-agrees now n from l).value ∙ f.value n (omega arith);
        reached_target = λ n l. flag-settled (meets_target t k.setting) (meets_target t (settled k now).setting) k.target k.setting.since now n from l
            (λ c a b. target-as t (settled k now).setting k.setting c (settled-agrees now c from (omega arith))) ∙ f.reached_target n (omega arith);
        reached_top = λ n l. flag-settled (meets_top t k.setting) (meets_top t (settled k now).setting) k.top k.setting.since now n from l
            (λ c a b. meets-as t 0xFFFF (settled k now).setting k.setting c (settled-agrees now c from (omega arith))) ∙ f.reached_top n (omega arith);
        asked = λ n l. flag-settled (asks t k.setting) (asks t (settled k now).setting) k.asked k.setting.since now n from l
            (λ c a b. asks-as t (settled k now).setting k.setting c (settled-agrees now c from (omega arith))) ∙ f.asked n (omega arith);
        quiet = λ n a b. absurd (omega arith);
      }

follows-agrees : (k : KeptCounter) (acts : List Act) (m n : ℕ) → Follows k acts m → m ≤ n → Agrees k.number k.setting (setting k.number acts) n
follows-agrees k acts m n f h = record { mode = f.mode; target = f.target; value = f.value n h }

-- a later turn raises the line by what the counter keeps as it does by the accesses
pub raises-as : (k : KeptCounter) (acts : List Act) (m n : ℕ) → Follows k acts m → m < n → raises_line k n ≡ raises k.number acts n
unfolding raises_line raises
raises-as k acts m n f h =
    λ i. asks-as k.number k.setting (setting k.number acts) n (follows-agrees k acts m n f (omega arith)) i && (bit (f.mode i) 6 || not (f.asked (n - 1) (omega arith) i))

-- an interrupt is asked for at the target or at FFFFh
pub happens-asks : (t : ℕ) (s : Setting) (from to : ℕ) → happens (asks t s) from to ≡ ((bit s.mode 4 && happens (meets_target t s) from to) || (bit s.mode 5 && happens (meets_top t s) from to))
unfolding asks
happens-asks t s from to =
    happens-or (λ n. bit s.mode 4 && meets_target t s n) (λ n. bit s.mode 5 && meets_top t s n) from to
    ∙ ap₂ ◌||◌ (happens-and (bit s.mode 4) (meets_target t s) from to) (happens-and (bit s.mode 5) (meets_top t s) from to)

-- whether one raised it up to a count
pub raised : (k : KeptCounter) (acts : List Act) (m now : ℕ) → Follows k acts m → m ≤ now
    → (happens (asks k.number k.setting) k.setting.since now && (bit k.setting.mode 6 || not k.asked)) ≡ happens (raises k.number acts) m now
unfolding raises_line
raised k acts m now f h =
    sym (happens-first (asks k.number k.setting) (bit k.setting.mode 6) k.asked k.setting.since now)
    ∙ happens-split (raises_line k) k.setting.since m now f.since h
    ∙ ap (λ b. b || happens (raises_line k) m now) (happens-never (raises_line k) k.setting.since m f.quiet)
    ∙ happens-same (raises_line k) (raises k.number acts) m now (λ n a b. raises-as k acts m n f a)

-- the same as the code has them, with the fields that it has opened
pub settled-open : (k k' : KeptCounter) → k' ≡ k → k'.setting.value ≤ 0xFFFF → k'.setting.target ≤ 0xFFFF → (acts : List Act) (m now value : ℕ) (target top asking : Bool)
    → Follows k acts m → m ≤ now → value ≡ value_at k.number k.setting now
    → target ≡ happens (meets_target k.number k.setting) k.setting.since now → top ≡ happens (meets_top k.number k.setting) k.setting.since now
    → asking ≡ ((bit k.setting.mode 4 && target) || (bit k.setting.mode 5 && top))
    → Follows (record k' { setting = record k'.setting { value = value; since = now }; target = k'.target || target; top = k'.top || top; asked = k'.asked || asking }) acts now
settled-open k k' same small low acts m now value target top asking f h is_value is_target is_top is_asking =
    let all : asking ≡ happens (asks k.number k.setting) k.setting.since now =
    is_asking ∙ (λ i. (bit k.setting.mode 4 && is_target i) || (bit k.setting.mode 5 && is_top i)) ∙ sym (happens-asks k.number k.setting k.setting.since now) in
    let new : record k { setting = record k.setting { value = value; since = now }; target = k.target || target; top = k.top || top; asked = k.asked || asking } ≡ settled k now =
    λ i. record k { setting = record k.setting { value = is_value i; since = now }; target = k.target || is_target i; top = k.top || is_top i; asked = k.asked || all i } in
    let P : KeptCounter → Type 0 = λ k. Follows (record k { setting = record k.setting { value = value; since = now }; target = k.target || target; top = k.top || top; asked = k.asked || asking }) acts now in
    let Q : KeptCounter → Type 0 = λ k. Follows k acts now in
    subst P (sym same) (subst Q (sym new) (follows-settled k (subst (λ (k : KeptCounter). k.setting.value ≤ 0xFFFF) same small) (subst (λ (k : KeptCounter). k.setting.target ≤ 0xFFFF) same low) acts m now f h))

pub raised-open : (k : KeptCounter) (acts : List Act) (m now : ℕ) (target top asking armed : Bool) → Follows k acts m → m ≤ now
    → target ≡ happens (meets_target k.number k.setting) k.setting.since now → top ≡ happens (meets_top k.number k.setting) k.setting.since now
    → asking ≡ ((bit k.setting.mode 4 && target) || (bit k.setting.mode 5 && top)) → armed ≡ (bit k.setting.mode 6 || not k.asked)
    → (asking && armed) ≡ happens (raises k.number acts) m now
raised-open k acts m now target top asking armed f h is_target is_top is_asking is_armed =
    ap₂ ◌&&◌ (is_asking ∙ (λ i. (bit k.setting.mode 4 && is_target i) || (bit k.setting.mode 5 && is_top i)) ∙ sym (happens-asks k.number k.setting k.setting.since now)) is_armed
    ∙ raised k acts m now f h

-- the next count changes nothing else
pub ahead-open : (k k' : KeptCounter) (next : ℕ) → k' ≡ k → ((n : ℕ) → k.setting.since < n → n < next → raises_line k n ≡ false) → IsAhead (record k' { next = next })
unfolding raises_line
ahead-open k k' next same quiet = subst (λ (k : KeptCounter). IsAhead (record k { next = next })) (sym same) (record { quiet = quiet })

pub follows-open : (k : KeptCounter) (acts : List Act) (now next : ℕ) → Follows k acts now → Follows (record k { next = next }) acts now
unfolding raises_line
follows-open k acts now next f = record { latest = f.latest; since = f.since; mode = f.mode; target = f.target; value = f.value; reached_target = f.reached_target; reached_top = f.reached_top; asked = f.asked; quiet = f.quiet }

-- a count before the next one that it keeps
pub follows-later : (k : KeptCounter) (acts : List Act) (m now : ℕ) → Follows k acts m → IsAhead k → m ≤ now → now < k.next → Follows k acts now
follows-later k acts m now f ahead h l = record {
  latest = omega (arith, f.latest);
  since = omega (arith, f.since);
  mode = f.mode;
  target = f.target;
  value = λ n a. f.value n (omega arith);
  reached_target = λ n a. f.reached_target n (omega arith);
  reached_top = λ n a. f.reached_top n (omega arith);
  asked = λ n a. f.asked n (omega arith);
  quiet = λ n a b. ahead.quiet n a (omega arith);
}

pub nothing-raised : (k : KeptCounter) (acts : List Act) (m now : ℕ) → Follows k acts m → IsAhead k → now < k.next → happens (raises k.number acts) m now ≡ false
nothing-raised k acts m now f ahead l =
    happens-never (raises k.number acts) m now (λ n a b. sym (raises-as k acts m n f a) ∙ ahead.quiet n (omega (arith, f.since)) (omega arith))

-- ---- an access

or_comm : (f h s : Bool) → f ≡ s → (f || h) ≡ (h || s)
or_comm true true s e = refl
or_comm true false s e = e
or_comm false true s e = refl
or_comm false false s e = e

-- what was reached before an access, and after it
flag-act : (p q : ℕ → Bool) (f s : Bool) (since now n : ℕ) → since ≡ now → ((c : ℕ) → now < c → p c ≡ q c) → f ≡ s → (f || happens p since n) ≡ (happens q now n || s)
flag-act p q f s since now n at same e =
    ap (λ m. f || happens p m n) at ∙ ap (λ b. f || b) (happens-same p q now n (λ c a b. same c a)) ∙ or_comm f (happens q now n) s e

or_false : (f : Bool) → (f || false) ≡ f
or_false true = refl
or_false false = refl

flag-now : (p : ℕ → Bool) (f s : Bool) (since now : ℕ) → since ≡ now → (f || happens p since now) ≡ s → f ≡ s
flag-now p f s since now at is = sym (or_false f) ∙ ap (λ b. f || b) (sym (happens-empty p since now (omega arith))) ∙ is

-- a counter whose turns are made, changed as an access says
follows-act : (k : KeptCounter) (acts : List Act) (act : Act) (now : ℕ) (s : Setting) (target top asked' : Bool) (next : ℕ) → Follows k acts now → k.setting.since ≡ now → time act ≡ now
    → ((n : ℕ) → now ≤ n → Agrees k.number s (setting k.number (act ∷ acts)) n) → s.since ≡ now
    → target ≡ (not (uses_mode act) && k.target) → top ≡ (not (uses_mode act) && k.top) → asked' ≡ (not (writes_mode act) && k.asked)
    → Follows (record { number = k.number; setting = s; target = target; top = top; asked = asked'; next = next }) (act ∷ acts) now
unfolding since_last
follows-act k acts act now s target top asked' next f at when agrees since is_target is_top is_asked =
    let t = k.number in
    let later : (n : ℕ) → time act < n → now ≤ n = λ n a. omega arith in
    let here : s.since ≡ time act = since ∙ sym when in
    let kept_target = flag-now (meets_target t k.setting) k.target (reached_target t acts (time act)) k.setting.since (time act) (at ∙ sym when) (f.reached_target (time act) (omega arith)) in
    let kept_top = flag-now (meets_top t k.setting) k.top (reached_top t acts (time act)) k.setting.since (time act) (at ∙ sym when) (f.reached_top (time act) (omega arith)) in
    let kept_asked = flag-now (asks t k.setting) k.asked (asked t acts (time act)) k.setting.since (time act) (at ∙ sym when) (f.asked (time act) (omega arith)) in
    record {
      latest = omega arith;
      since = omega arith;
      mode = (agrees now (omega arith)).mode;
      target = (agrees now (omega arith)).target;
      value = λ n a. (agrees n a).value;
      reached_target = λ n a. flag-act (meets_target t s) (meets_target t (setting t (act ∷ acts))) target (not (uses_mode act) && reached_target t acts (time act)) s.since (time act) n here
          (λ c b. target-as t s (setting t (act ∷ acts)) c (agrees c (later c b))) (is_target ∙ ap (λ b. not (uses_mode act) && b) kept_target);
      reached_top = λ n a. flag-act (meets_top t s) (meets_top t (setting t (act ∷ acts))) top (not (uses_mode act) && reached_top t acts (time act)) s.since (time act) n here
          (λ c b. meets-as t 0xFFFF s (setting t (act ∷ acts)) c (agrees c (later c b))) (is_top ∙ ap (λ b. not (uses_mode act) && b) kept_top);
      asked = λ n a. flag-act (asks t s) (asks t (setting t (act ∷ acts))) asked' (not (writes_mode act) && asked t acts (time act)) s.since (time act) n here
          (λ c b. asks-as t s (setting t (act ∷ acts)) c (agrees c (later c b))) (is_asked ∙ ap (λ b. not (writes_mode act) && b) kept_asked);
      quiet = λ n a b. absurd (omega arith);
    }

module _ (k : KeptCounter) (acts : List Act) (now next : ℕ) (f : Follows k acts now) (at : k.setting.since ≡ now) where
  pub follows-value : (x : ℕ) → Follows (record k { setting = record k.setting { value = x % 2 ^ 16 }; next = next }) (SetValue now x ∷ acts) now
  unfolding setting
  follows-value x = follows-act k acts (SetValue now x) now (record k.setting { value = x % 2 ^ 16 }) k.target k.top k.asked next f at refl agrees at refl refl refl where
    agrees : (n : ℕ) → now ≤ n → Agrees k.number (record k.setting { value = x % 2 ^ 16 }) (setting k.number (SetValue now x ∷ acts)) n
    agrees n h = record { mode = f.mode; target = f.target; value = λ i. value_at k.number (record { mode = f.mode i; target = f.target i; value = x % 2 ^ 16; since = at i }) n }

  pub follows-mode : (x : ℕ) → Follows (record k { setting = record k.setting { mode = x % 2 ^ 10; value = 0 }; target = false; top = false; asked = false; next = next }) (SetMode now x ∷ acts) now
  unfolding setting
  follows-mode x = follows-act k acts (SetMode now x) now (record k.setting { mode = x % 2 ^ 10; value = 0 }) false false false next f at refl agrees at refl refl refl where
    agrees : (n : ℕ) → now ≤ n → Agrees k.number (record k.setting { mode = x % 2 ^ 10; value = 0 }) (setting k.number (SetMode now x ∷ acts)) n
    agrees n h = record { mode = refl; target = f.target; value = λ i. value_at k.number (record { mode = x % 2 ^ 10; target = f.target i; value = 0; since = at i }) n }

  pub follows-target : k.setting.value ≤ 0xFFFF → k.setting.target ≤ 0xFFFF → (x : ℕ)
      → Follows (record k { setting = record k.setting { target = x % 2 ^ 16 }; next = next }) (SetTarget now x ∷ acts) now
  unfolding setting
  follows-target small low x = follows-act k acts (SetTarget now x) now (record k.setting { target = x % 2 ^ 16 }) k.target k.top k.asked next f at refl agrees at refl refl refl where
    value : k.setting.value ≡ value_at k.number (setting k.number acts) now
    value = sym (value-now k.number k.setting small low) ∙ ap (value_at k.number k.setting) at ∙ f.value now (omega arith)

    agrees : (n : ℕ) → now ≤ n → Agrees k.number (record k.setting { target = x % 2 ^ 16 }) (setting k.number (SetTarget now x ∷ acts)) n
    agrees n h = record { mode = f.mode; target = refl; value = λ i. value_at k.number (record { mode = f.mode i; target = x % 2 ^ 16; value = value i; since = at i }) n }

  pub follows-take : Follows (record k { target = false; top = false; next = next }) (TakeMode now ∷ acts) now
  unfolding setting
  follows-take = follows-act k acts (TakeMode now) now k.setting false false k.asked next f at refl agrees at refl refl refl where
    agrees : (n : ℕ) → now ≤ n → Agrees k.number k.setting (setting k.number (TakeMode now ∷ acts)) n
    agrees n h = follows-agrees k acts now n f h

-- the mode as it is read
pub word-kept : (k : KeptCounter) (acts : List Act) (now : ℕ) → Follows k acts now → k.setting.since ≡ now
    → k.setting.mode + (if k.target then 0x800 else 0) + (if k.top then 0x1000 else 0) ≡ mode_word k.number acts now
word-kept k acts now f at =
    let target = flag-now (meets_target k.number k.setting) k.target (reached_target k.number acts now) k.setting.since now at (f.reached_target now (omega arith)) in
    let top = flag-now (meets_top k.number k.setting) k.top (reached_top k.number acts now) k.setting.since now at (f.reached_top now (omega arith)) in
    λ i. f.mode i + (if target i then 0x800 else 0) + (if top i then 0x1000 else 0)

pub word-open : (k k' : KeptCounter) (acts : List Act) (now t : ℕ) → k' ≡ k → k.number ≡ t → Follows k acts now → k.setting.since ≡ now
    → k'.setting.mode + (if k'.target then 0x800 else 0) + (if k'.top then 0x1000 else 0) ≡ mode_word t acts now
word-open k k' acts now t same number f at =
    ap (λ (k : KeptCounter). k.setting.mode + (if k.target then 0x800 else 0) + (if k.top then 0x1000 else 0)) same ∙ word-kept k acts now f at ∙ ap (λ t. mode_word t acts now) number
