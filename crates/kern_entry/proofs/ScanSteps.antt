-- A scan event by event, and how many events are busy meanwhile.
use Rattle.std.proofs.Common.{◌≡◌, ℕ, zero, suc, ◌+◌, ◌<◌, ◌≤◌, Bool, true, false, List, [], ◌∷◌, length, refl, ap, ◌∙◌, arith, eq-eqb, ne_eqb}
use Rattle.std.specs.Prelude.{nat_eq, not, ◌&&◌, slice_set, slice_index_or, if◌then◌else◌}
use Rattle.psx_base.specs.KernelState.{Event, KernelState}
use Rattle.kern_layout.specs.Reads.{event, no_event}
use Rattle.abs_kernel.specs.Stay.{Stay}
use Rattle.abs_kernel.specs.Scan.{is_marked, is_called, with_ready, scan}

-- ---- what a scan makes of an event

abbrev pub Done : Type 0
Done = KernelState → Stay

abbrev pub Called : Type 0
Called = KernelState → (function from : ℕ) → Stay

pub scan_is : (n class spec i : ℕ) (s : KernelState) (done : Done) (called : Called) (b c : Bool) → is_marked class spec (event s i) ≡ b → is_called class spec (event s i) ≡ c
    → scan (suc n) class spec i s done called ≡ (if b then scan n class spec (suc i) (with_ready s i) done called else (if c then called s (event s i).function (suc i) else scan n class spec (suc i) s done called))
scan_is n class spec i s done called b c p q = λ j. if p j then scan n class spec (suc i) (with_ready s i) done called else (if q j then called s (event s i).function (suc i) else scan n class spec (suc i) s done called)

-- by its fields
pub marked_by : (class spec : ℕ) (e : Event) (a b c d : Bool) → nat_eq e.status 0x2000 ≡ a → nat_eq e.class class ≡ b → nat_eq e.spec spec ≡ c → nat_eq e.mode 0x2000 ≡ d → is_marked class spec e ≡ ((a && (b && c)) && d)
marked_by class spec e a b c d p q r t = λ j. (p j && (q j && r j)) && t j

pub called_by : (class spec : ℕ) (e : Event) (a b c d f : Bool) → nat_eq e.status 0x2000 ≡ a → nat_eq e.class class ≡ b → nat_eq e.spec spec ≡ c → nat_eq e.mode 0x1000 ≡ d → nat_eq e.function 0 ≡ f
    → is_called class spec e ≡ ((a && (b && c)) && (d && not f))
called_by class spec e a b c d f p q r t u = λ j. (p j && (q j && r j)) && (t j && not (u j))

-- an event that is passed over
pub record Passed (class spec : ℕ) (e : Event) : Type 0 where
  pub marked : is_marked class spec e ≡ false
  pub called : is_called class spec e ≡ false

off : (a c d : Bool) → ((a && (false && c)) && d) ≡ false
off true c d = refl
off false c d = refl

pub other_class : (class spec : ℕ) (e : Event) → (e.class ≡ class → ⊥) → Passed class spec e
other_class class spec e ne =
    let b : nat_eq e.class class ≡ false = ne_eqb e.class class ne in
    record {
      marked = marked_by class spec e _ false _ _ refl b refl refl ∙ off (nat_eq e.status 0x2000) (nat_eq e.spec spec) (nat_eq e.mode 0x2000);
      called = called_by class spec e _ false _ _ _ refl b refl refl refl ∙ off (nat_eq e.status 0x2000) (nat_eq e.spec spec) (nat_eq e.mode 0x1000 && not (nat_eq e.function 0));
    }

pub other_status : (class spec : ℕ) (e : Event) → (e.status ≡ 0x2000 → ⊥) → Passed class spec e
other_status class spec e ne =
    let a : nat_eq e.status 0x2000 ≡ false = ne_eqb e.status 0x2000 ne in
    record { marked = marked_by class spec e false _ _ _ a refl refl refl; called = called_by class spec e false _ _ _ _ a refl refl refl refl }

-- a busy event of the class
module _ (class spec : ℕ) (e : Event) (busy : e.status ≡ 0x2000) (of_class : e.class ≡ class) where
  a : nat_eq e.status 0x2000 ≡ true
  a = eq-eqb e.status 0x2000 busy

  b : nat_eq e.class class ≡ true
  b = eq-eqb e.class class of_class

  pub other_spec : (e.spec ≡ spec → ⊥) → Passed class spec e
  other_spec ne =
      let c : nat_eq e.spec spec ≡ false = ne_eqb e.spec spec ne in
      record { marked = marked_by class spec e true true false _ a b c refl; called = called_by class spec e true true false _ _ a b c refl refl }

  module _ (of_spec : e.spec ≡ spec) where
    c : nat_eq e.spec spec ≡ true
    c = eq-eqb e.spec spec of_spec

    pub other_mode : (e.mode ≡ 0x1000 → ⊥) → (e.mode ≡ 0x2000 → ⊥) → Passed class spec e
    other_mode ne nf = record { marked = marked_by class spec e true true true false a b c (ne_eqb e.mode 0x2000 nf); called = called_by class spec e true true true false _ a b c (ne_eqb e.mode 0x1000 ne) refl }

    pub is_ready : e.mode ≡ 0x2000 → is_marked class spec e ≡ true
    is_ready q = marked_by class spec e true true true true a b c (eq-eqb e.mode 0x2000 q)

    pub calls_none : e.mode ≡ 0x1000 → e.function ≡ 0 → Passed class spec e
    calls_none q f = record {
      marked = marked_by class spec e true true true false a b c (ap (λ x. nat_eq x 0x2000) q);
      called = called_by class spec e true true true true true a b c (eq-eqb e.mode 0x1000 q) (eq-eqb e.function 0 f);
    }

    pub calls_it : e.mode ≡ 0x1000 → (e.function ≡ 0 → ⊥) → (is_marked class spec e ≡ false) × (is_called class spec e ≡ true)
    calls_it q ne = (
      marked_by class spec e true true true false a b c (ap (λ x. nat_eq x 0x2000) q),
      called_by class spec e true true true true false a b c (eq-eqb e.mode 0x1000 q) (ne_eqb e.function 0 ne),
    )

-- ---- the busy events, of which each becomes ready once

abbrev pub busy : List Event → ℕ
busy [] = 0
busy (e ∷ es) = (if nat_eq e.status 0x2000 then 1 else 0) + busy es

pub busy_few : (es : List Event) → busy es ≤ length es
busy_few [] = omega arith
busy_few (e ∷ es) = one (nat_eq e.status 0x2000) (busy_few es)
  where
    one : (b : Bool) → busy es ≤ length es → (if b then 1 else 0) + busy es ≤ suc (length es)
    one true h = omega (arith, h)
    one false h = omega (arith, h)

pub busy_less : (es : List Event) (i : ℕ) (e : Event) → i < length es → (slice_index_or es i no_event).status ≡ 0x2000 → e.status ≡ 0x4000 → suc (busy (slice_set es i e)) ≡ busy es
busy_less [] i e lt old new = absurd (omega (arith, lt))
busy_less (x ∷ es) zero e lt old new =
    let p : ◌≡◌ {A = ℕ} (if nat_eq x.status 0x2000 then 1 else 0) 1 = ap (λ b. if b then 1 else 0) (eq-eqb x.status 0x2000 old) in
    let q : ◌≡◌ {A = ℕ} (if nat_eq e.status 0x2000 then 1 else 0) 0 = ap (λ v. if nat_eq v 0x2000 then 1 else 0) new in
    let f : suc ((if nat_eq e.status 0x2000 then 1 else 0) + busy es) ≡ (if nat_eq x.status 0x2000 then 1 else 0) + busy es = omega (arith, p, q) in
    f
busy_less (x ∷ es) (suc i) e lt old new =
    let h = busy_less es i e (omega (arith, lt)) old new in
    let f : suc ((if nat_eq x.status 0x2000 then 1 else 0) + busy (slice_set es i e)) ≡ (if nat_eq x.status 0x2000 then 1 else 0) + busy es = omega (arith, h) in
    f
