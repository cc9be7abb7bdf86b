-- The laws of the calls.
use Rattle.std.proofs.Common.{◌≡◌, ℕ, zero, suc, ◌+◌, ◌-◌, ◌%◌, ◌^◌, ◌<◌, ◌≤◌, ◌⊎◌, inl, inr, Bool, true, false, List, [], ◌∷◌, length, refl, sym, ap, ◌∙◌, subst, arith, ⊎_elim, get_or-set_same, get_or-set_other, eq-eqb}
use Rattle.std.specs.Prelude.{nat_eq, nat_lt, ◌&&◌, ◌||◌, map, slice_index_or, if◌then◌else◌}
use Rattle.std.proofs.lemmas.Bool.{false≢true, cases_eq, cases_lt, eqb-true, ltb-true}
use Rattle.std.proofs.lemmas.List.{get_or_past}
use Rattle.psx_base.specs.KernelState.{Event, KernelState}
use Rattle.kern_layout.specs.Reads.{event, chain, no_event}
use Rattle.kern_layout.specs.Stores.{with_event, with_chain}
use Rattle.kern_layout.specs.Valid.{Valid}
use Rattle.abs_kernel.specs.StayLaws.{EachEnd, EachReturn}
use Rattle.abs_kernel.specs.Answered.{registers_of, answered}
use Rattle.abs_kernel.specs.UserWords.{user_word}
use Rattle.abs_kernel.specs.Events.{event_number, event_handle, has_status, with_status, gets_status}
use Rattle.abs_kernel.specs.OpenEvent.{with_opened, opens_from}
use Rattle.abs_kernel.specs.CloseEvent.{close_event}
use Rattle.abs_kernel.specs.TestEvent.{test_event}
use Rattle.abs_kernel.specs.WaitEvent.{wait_event}
use Rattle.abs_kernel.specs.UnDeliverEvent.{undelivered, undeliver_event}
use Rattle.abs_kernel.specs.Chains.{has, without}
use Rattle.abs_kernel.specs.SysDeqIntRP.{sys_deq_int_rp}
use Rattle.abs_kernel.proofs.Ending.{if_ends, if_ends_by}
use Rattle.kern_event.specs.Laws.{AnswerAlone, named, IsReady, Tested, ReadyOnce, BadHandleKeeps, IsOpen, OpensGood, StaysGood, TakenBack}
use Rattle.kern_event.proofs.EventsHeld.{status_past, is_so}

-- ---- an event of a table

is_status : (s : KernelState) (i v : ℕ) → has_status s i v ≡ true → (event s i).status ≡ v
is_status s i v h = eqb-true (event s i).status v h

isnt_status : (s : KernelState) (i v : ℕ) → has_status s i v ≡ false → (event s i).status ≡ v → ⊥
isnt_status s i v h e = false≢true (sym h ∙ is_so s i v e)

-- one that isn't free is of the table
open_few : (s : KernelState) (i : ℕ) → IsOpen s i → i < length s.events
open_few s i h = ⊎_elim (λ l. l) (λ g. absurd (h (status_past s i g))) (cases_lt i (length s.events))

set_here : (s : KernelState) (i : ℕ) (e : Event) → i < length s.events → event (with_event s i e) i ≡ e
set_here s i e few = get_or-set_same s.events i e no_event few

set_else : (s : KernelState) (i j : ℕ) (e : Event) → (j ≡ i → ⊥) → event (with_event s i e) j ≡ event s j
set_else s i j e ne = get_or-set_other s.events i j e no_event ne

-- ---- a ready event is seen once

again : (u : KernelState) → (IsReady u (named u) → ⊥) → EachReturn (λ w. (registers_of w).r2 ≡ 0) (test_event u)
again u ne = if_ends_by (λ w. (registers_of w).r2 ≡ 0) (λ stop memory. Unit {0}) (has_status u (named u) 0x4000) _ _ (λ h. absurd (ne (is_status u (named u) 0x4000 h))) (λ h. refl)

as_left : (u t : KernelState) (i : ℕ) → event u (named u) ≡ event t i → (IsReady t i → ⊥) → IsReady u (named u) → ⊥
as_left u t i e ne r = ne (ap (λ (e : Event). e.status) (sym e) ∙ r)

pub ready_once : ReadyOnce
ready_once s =
    let i : ℕ = named s in
    if_ends_by (λ t. Tested s t × ((u : KernelState) → event u (named u) ≡ event t (named s) → EachReturn (λ w. (registers_of w).r2 ≡ 0) (test_event u))) (λ stop memory. Unit {0}) (has_status s i 0x4000) _ _
    (λ h.
    let is = is_status s i 0x4000 h in
    let few = open_few s i (λ z. omega (arith, z, is)) in
    let t : KernelState = with_status s i 0x2000 in
    let left : (event t i).status ≡ 0x2000 = ap (λ (e : Event). e.status) (set_here s i (record (event s i) { status = 0x2000 }) few) in
    (record { one = λ r. refl; zero = λ ne. absurd (ne is) }, λ u e. again u (as_left u t i e (λ r. omega (arith, r, left)))))
    (λ h. let isnt = isnt_status s i 0x4000 h in (record { one = λ r. absurd (isnt r); zero = λ ne. (refl, refl) }, λ u e. again u (as_left u s i e isnt)))

-- ---- a bad handle

module _ (s : KernelState) (past : length s.events ≤ named s) where
  abbrev P : KernelState → Type 0
  P t = AnswerAlone s t

  none : (event s (named s)).status ≡ 0
  none = status_past s (named s) past

  keeps : (v : ℕ) → EachEnd P (λ stop memory. ⊥) (gets_status v s)
  keeps v = if_ends_by P (λ stop memory. ⊥) (has_status s (named s) 0) _ _ (λ h. refl) (λ h. absurd (isnt_status s (named s) 0 h none))

  test_keeps : EachEnd P (λ stop memory. ⊥) (test_event s)
  test_keeps = if_ends_by P (λ stop memory. ⊥) (has_status s (named s) 0x4000) _ _ (λ h. absurd (let is = is_status s (named s) 0x4000 h in omega (arith, is, none))) (λ h. refl)

  wait_keeps : EachEnd P (λ stop memory. ⊥) (wait_event s)
  wait_keeps = if_ends_by P (λ stop memory. ⊥) (has_status s (named s) 0x2000) _ _ (λ h. absurd (let is = is_status s (named s) 0x2000 h in omega (arith, is, none))) (λ h. test_keeps)

pub bad_handle_keeps : BadHandleKeeps
bad_handle_keeps = (λ s past. keeps s past 0, (λ s past. wait_keeps s past, (λ s past. test_keeps s past, (λ s past. keeps s past 0x2000, (λ s past. keeps s past 0x1000, tt)))))

-- ---- a handle is good until it is closed

abbrev Opened : KernelState → Type 0
Opened t = ((registers_of t).r2 ≡ 2 ^ 32 - 1) ⊎ IsOpen t (event_number (registers_of t).r2)

opens_good : (s : KernelState) → Valid s → (k i : ℕ) → i + k ≡ length s.events → EachReturn Opened (opens_from k s i)
opens_good s valid zero i sum = inl refl
opens_good s valid (suc k) i sum =
    let few : i < length s.events = omega (arith, sum) in
    let most = valid.events_most in
    let t : KernelState = with_opened s i in
    let r = registers_of s in
    let is : event_number (event_handle i) ≡ i = omega (arith, few, most) in
    let new : (event t (event_number (event_handle i))).status ≡ 0x1000 =
    ap (λ j. (event t j).status) is ∙ ap (λ (e : Event). e.status) (set_here s i (record { status = 0x1000; class = r.r4; spec = r.r5; mode = r.r6; function = r.r7 }) few) in
    if_ends Opened (λ stop memory. Unit {0}) (has_status s i 0) _ _ (inr (λ z. omega (arith, z, new))) (opens_good s valid k (suc i) (omega (arith, sum)))

pub opens : OpensGood
opens s valid = opens_good s valid (length s.events) 0 (omega arith)

module _ (s : KernelState) (i : ℕ) (open_i : IsOpen s i) where
  abbrev Q : KernelState → Type 0
  Q t = IsOpen t i

  -- an event is changed, and is open then
  changed : (j : ℕ) (e : Event) → ((e.status ≡ 0) → ⊥) → IsOpen (with_event s j e) i
  changed j e ok z = ⊎_elim
      (λ (q : i ≡ j). ok (sym (ap (λ (e : Event). e.status) (set_here s j e (let few = open_few s i open_i in omega (arith, few, q)))) ∙ ap (λ k. (event (with_event s j e) k).status) (sym q) ∙ z))
      (λ (ne : i ≡ j → ⊥). open_i (sym (ap (λ (e : Event). e.status) (set_else s j i e ne)) ∙ z))
      (cases_eq i j)

  status_leaves : (v : ℕ) → (v ≡ 0 → ⊥) → EachReturn Q (gets_status v s)
  status_leaves v ok = if_ends Q (λ stop memory. Unit {0}) (has_status s (named s) 0) _ _ open_i (changed (named s) (record (event s (named s)) { status = v }) ok)

  test_leaves : EachReturn Q (test_event s)
  test_leaves = if_ends Q (λ stop memory. Unit {0}) (has_status s (named s) 0x4000) _ _ (changed (named s) (record (event s (named s)) { status = 0x2000 }) (λ z. omega (arith, z))) open_i

  wait_leaves : EachReturn Q (wait_event s)
  wait_leaves = if_ends Q (λ stop memory. Unit {0}) (has_status s (named s) 0x2000) _ _ open_i test_leaves

  open_leaves : (k j : ℕ) → EachReturn Q (opens_from k s j)
  open_leaves zero j = open_i
  open_leaves (suc k) j =
      let r = registers_of s in
      if_ends Q (λ stop memory. Unit {0}) (has_status s j 0) _ _ (changed j (record { status = 0x1000; class = r.r4; spec = r.r5; mode = r.r6; function = r.r7 }) (λ z. omega (arith, z))) (open_leaves k (suc j))

  close_leaves : (named s ≡ i → ⊥) → EachReturn Q (close_event s)
  close_leaves ne = if_ends Q (λ stop memory. Unit {0}) (has_status s (named s) 0) _ _ open_i
      (λ z. open_i (sym (ap (λ (e : Event). e.status) (set_else s (named s) i (record (event s (named s)) { status = 0 }) (λ q. ne (sym q)))) ∙ z))

-- an event that UnDeliverEvent changes is busy
undelivered_open : (class spec : ℕ) (e : Event) → (e.status ≡ 0 → ⊥) → (undelivered class spec e).status ≡ 0 → ⊥
undelivered_open class spec e ne = go (nat_eq e.class class && (nat_eq e.status 0x4000 && (nat_eq e.spec spec && nat_eq e.mode 0x2000)))
  where
    go : (b : Bool) → (if b then record e { status = 0x2000 } else e).status ≡ 0 → ⊥
    go true z = omega (arith, z)
    go false z = ne z

map_open : (f : Event → Event) → ((e : Event) → (e.status ≡ 0 → ⊥) → (f e).status ≡ 0 → ⊥) → (es : List Event) (i : ℕ)
    → ((slice_index_or es i no_event).status ≡ 0 → ⊥) → (slice_index_or (map f es) i no_event).status ≡ 0 → ⊥
map_open f ok [] i ne = ne
map_open f ok (e ∷ es) zero ne = ok e ne
map_open f ok (e ∷ es) (suc i) ne = map_open f ok es i ne

undeliver_leaves : (s : KernelState) (i : ℕ) → IsOpen s i → EachReturn (λ t. IsOpen t i) (undeliver_event s)
undeliver_leaves s i open_i = let r = registers_of s in map_open (undelivered r.r4 r.r5) (undelivered_open r.r4 r.r5) s.events i open_i

pub stays_good : StaysGood
stays_good = record {
  leave = (λ s i h. open_leaves s i h (length s.events) 0, (wait_leaves, (test_leaves, (λ s i h. status_leaves s i h 0x2000 (λ z. omega (arith, z)), (λ s i h. status_leaves s i h 0x1000 (λ z. omega (arith, z)), (undeliver_leaves, tt))))));
  close = close_leaves;
}

-- ---- an element put in a chain and taken out again

abbrev Back : (s t : KernelState) → Type 0
Back s t =
    let r = registers_of s in
    (registers_of t).r2 ≡ 0 → (u : KernelState) → (registers_of u).r4 ≡ r.r4 → (registers_of u).r5 ≡ r.r5 → chain u r.r4 ≡ chain t r.r4
    → EachEnd (λ w. ((registers_of w).r2 ≡ 0) × (chain w r.r4 ≡ chain s r.r4)) (λ stop memory. ⊥) (sys_deq_int_rp u)

-- where the head of the chain is the element
takes_head : (u : KernelState) (p e : ℕ) (c : List ℕ) → (registers_of u).r4 ≡ p → (registers_of u).r5 ≡ e → chain u p ≡ e ∷ c
    → EachEnd (λ w. ((registers_of w).r2 ≡ 0) × (chain w p ≡ c)) (λ stop memory. ⊥) (sys_deq_int_rp u)
takes_head u p e c is_p is_e there =
    let same : nat_eq e e ≡ true = eq-eqb e e refl in
    let has_it : has e (chain u p) ≡ true = ap (has e) there ∙ ap (λ b. b || has e c) same in
    let less : without e (chain u p) ≡ c = ap (without e) there ∙ ap (λ b. if b then c else e ∷ without e c) same in
    let few : p < length u.chains = ⊎_elim (λ l. l) (λ g. absurd (let none : chain u p ≡ [] = get_or_past u.chains p [] g in let size : 0 ≡ suc (length c) = ap length (sym none ∙ there) in omega (arith, size))) (cases_lt p (length u.chains)) in
    let ends : EachEnd (λ w. ((registers_of w).r2 ≡ 0) × (chain w p ≡ c)) (λ stop memory. ⊥) (if has e (chain u p) then answered (with_chain u p (without e (chain u p))) 0 else answered u (2 ^ 32 - 1))
    = if_ends_by (λ w. ((registers_of w).r2 ≡ 0) × (chain w p ≡ c)) (λ stop memory. ⊥) (has e (chain u p)) _ _ (λ h. (refl, get_or-set_same u.chains p (without e (chain u p)) [] few ∙ less)) (λ h. absurd (false≢true (sym h ∙ has_it))) in
    let stay = λ (q x : ℕ). if has x (chain u q) then answered (with_chain u q (without x (chain u q))) 0 else answered u (2 ^ 32 - 1) in
    subst (EachEnd (λ w. ((registers_of w).r2 ≡ 0) × (chain w p ≡ c)) (λ stop memory. ⊥)) (λ j. stay (sym is_p j) (sym is_e j)) ends

pub taken_back : TakenBack
taken_back s valid =
    let r = registers_of s in
    let p : ℕ = r.r4 in
    let e : ℕ = r.r5 in
    let c : List ℕ = chain s p in
    if_ends_by (Back s) (λ stop memory. Unit {0}) (nat_lt p 4) _ _
    (λ few.
    let lt : p < length s.chains = (let l = ltb-true p 4 few in omega (arith, l, valid.chains_count)) in
    if_ends (Back s) (λ stop memory. Unit {0}) (user_word e) _ _ (if_ends (Back s) (λ stop memory. Unit {0}) (user_word ((e + 4) % 2 ^ 32)) _ _ (if_ends (Back s) (λ stop memory. Unit {0}) (user_word ((e + 8) % 2 ^ 32)) _ _
    (if_ends (Back s) (λ stop memory. Unit {0}) (nat_lt (length c) 8) _ _
    (if_ends (Back s) (λ stop memory. Unit {0}) (user_word e) _ _ (λ z u is_p is_e same. takes_head u p e c is_p is_e (same ∙ get_or-set_same s.chains p (e ∷ c) [] lt)) tt)
    (λ z. absurd (omega (arith, z)))) tt) tt) tt)
    (λ none z. absurd (omega (arith, z)))
