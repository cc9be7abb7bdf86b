-- UnDeliverEvent meets its stay.
use Rattle.psx_flow.proofs.Kit.{◌≡◌, ℕ, suc, ◌+◌, ◌-◌, ◌*◌, ◌%◌, ◌^◌, ◌<◌, ◌≤◌, [], refl, sym, ap, ◌∙◌, subst, arith, ⊎_elim, word, put_word, Registers, Run, Goal, Calls, calls, kernel_words, fair, start, true, false}
use Rattle.std.proofs.Common.{zero, length, List, ◌∷◌, ne_eqb, eq-eqb, inl, inr}
use Rattle.std.proofs.lemmas.Bool.{cases_eq}
use Rattle.std.proofs.lemmas.List.{length-set}
use Rattle.std.specs.Prelude.{Bool, ◌&&◌, nat_eq, map, slice_index_or, slice_set, if◌then◌else◌}
use Rattle.psx_base.specs.KernelState.{Event, KernelState}
use Rattle.psx_flow.specs.Told.{ports}
use Rattle.kern_layout.specs.Reads.{event_at, no_event}
use Rattle.kern_layout.specs.Valid.{Valid}
use Rattle.abs_kernel.specs.Answered.{registers_of, answered}
use Rattle.abs_kernel.specs.UnDeliverEvent.{undelivered, undeliver_event}
use Rattle.abs_kernel.specs.declared.calls.CallId.TheVariants.{B20}
use Rattle.abs_kernel.specs.Calls.{call}
use Rattle.abs_kernel.proofs.Evented.{EventsFit, events_same, events_set, valid_evented}
use Rattle.kern_stay.specs.Shared.{tree, tested_there}
use Rattle.kern_stay.specs.Doors.{Holds, Through, Serves, called_with, begun, most_steps}
use Rattle.kern_stay.proofs.Ending.{through, answers}
use Rattle.kern_stay.proofs.Looping.{Turning, looped}
use Rattle.kern_event.specs.declared.places.TheConstants.{UNDELIVER_EVENT}
use Rattle.kern_event.specs.declared.b20_undeliver_event.TheConstants.{NODES}
use Rattle.kern_event.proofs.EventsHeld.{field, holds_status}

-- ---- events of which the first ones are as they are to be

abbrev map_from : ℕ → (Event → Event) → List Event → List Event
map_from zero f es = map f es
map_from (suc n) f [] = []
map_from (suc n) f (e ∷ es) = e ∷ map_from n f es

from_set : (n : ℕ) (f : Event → Event) (es : List Event) → n < length es → map_from n f es ≡ map_from (suc n) f (slice_set es n (f (slice_index_or es n no_event)))
from_set n f [] lt = absurd (omega arith)
from_set zero f (e ∷ es) lt = refl
from_set (suc n) f (e ∷ es) lt = ap (λ xs. e ∷ xs) (from_set n f es (omega (arith, lt)))

from_same : (n : ℕ) (f : Event → Event) (es : List Event) → n < length es → f (slice_index_or es n no_event) ≡ slice_index_or es n no_event → map_from n f es ≡ map_from (suc n) f es
from_same n f [] lt same = absurd (omega arith)
from_same zero f (e ∷ es) lt same = ap (λ x. x ∷ map f es) same
from_same (suc n) f (e ∷ es) lt same = ap (λ xs. e ∷ xs) (from_same n f es (omega (arith, lt)) same)

from_end : (n : ℕ) (f : Event → Event) (es : List Event) → n ≡ length es → map_from n f es ≡ es
from_end zero f [] e = refl
from_end zero f (x ∷ es) e = absurd (omega (arith, e))
from_end (suc n) f [] e = refl
from_end (suc n) f (x ∷ es) e = ap (λ xs. x ∷ xs) (from_end n f es (omega (arith, e)))

-- an event of another class, status, spec or mode stays, and one of these becomes busy
chosen : (class spec : ℕ) (e : Event) (a b c d : Bool) → nat_eq e.class class ≡ a → nat_eq e.status 0x4000 ≡ b → nat_eq e.spec spec ≡ c → nat_eq e.mode 0x2000 ≡ d
    → undelivered class spec e ≡ (if a && (b && (c && d)) then record e { status = 0x2000 } else e)
chosen class spec e a b c d p q r t = λ i. if p i && (q i && (r i && t i)) then record e { status = 0x2000 } else e

off_2 : (a : Bool) (e : Event) → (if a && false then record e { status = 0x2000 } else e) ≡ e
off_2 true e = refl
off_2 false e = refl

off_3 : (a b : Bool) (e : Event) → (if a && (b && false) then record e { status = 0x2000 } else e) ≡ e
off_3 true b e = off_2 b e
off_3 false b e = refl

off_4 : (a b c : Bool) (e : Event) → (if a && (b && (c && false)) then record e { status = 0x2000 } else e) ≡ e
off_4 true b c e = off_3 b c e
off_4 false b c e = refl

-- at the loop's head, with k events to come
record Head (s : KernelState) (k : ℕ) (e : Run) : Type 0 where
  i : ℕ
  events : List Event
  sum : i + k ≡ length events
  fit : EventsFit s.events events
  left : undeliver_event s ≡ (let r = registers_of s in answered (record s { events = map_from i (undelivered r.r4 r.r5) events }) 0)
  within : e.steps + 40 * k ≤ 4000
  holds : Holds (record s { events = events }) e.bytes
  quiet : ports e.seen ≡ []
  r4 : e.regs.r4 ≡ (registers_of s).r4
  r5 : e.regs.r5 ≡ (registers_of s).r5
  r8 : e.regs.r8 ≡ 0x2000
  r9 : e.regs.r9 ≡ length events
  r10 : e.regs.r10 ≡ 0x4000
  r12 : e.regs.r12 ≡ 0x2000
  r13 : e.regs.r13 ≡ i
  r15 : e.regs.r15 ≡ 0x80000000 + event_at i

module _ (C : Calls) (s : KernelState) (valid : Valid s) where
  abbrev G : ℕ → Goal
  G to e = Through (undeliver_event s) most_steps to e

  -- one event on, with the events as they are then; the registers but r11, r13 and r15 are as they were
  on : (k : ℕ) (e : Run) (h : Head s k e) (n : Run) (x : ℕ) → 0 < k → (events : List Event) → length events ≡ length h.events → EventsFit s.events events
      → (let r = registers_of s in map_from h.i (undelivered r.r4 r.r5) h.events ≡ map_from (suc h.i) (undelivered r.r4 r.r5) events) → Holds (record s { events = events }) n.bytes
      → n.steps ≤ e.steps + 40 → ports n.seen ≡ [] → n.regs ≡ record e.regs { r11 = x; r13 = (e.regs.r13 + 1) % 2 ^ 32; r15 = (e.regs.r15 + 0x1C) % 2 ^ 32 } → Head s (k - 1) n
  on k e h n x some events count fit more holds few quiet regs =
      let sum = h.sum in
      let within = h.within in
      let most = valid.events_most in
      let full = h.fit.count in
      record {
        i = suc h.i;
        events = events;
        sum = omega (arith, sum, some, count);
        fit = fit;
        left = h.left ∙ ap (λ es. answered (record s { events = es }) 0) more;
        within = omega (arith, within, some, few);
        holds = holds;
        quiet = quiet;
        r4 = ap (λ (r : Registers). r.r4) regs ∙ h.r4;
        r5 = ap (λ (r : Registers). r.r5) regs ∙ h.r5;
        r8 = ap (λ (r : Registers). r.r8) regs ∙ h.r8;
        r9 = ap (λ (r : Registers). r.r9) regs ∙ h.r9 ∙ sym count;
        r10 = ap (λ (r : Registers). r.r10) regs ∙ h.r10;
        r12 = ap (λ (r : Registers). r.r12) regs ∙ h.r12;
        r13 = ap (λ (r : Registers). r.r13) regs ∙ (let r13 = h.r13 in omega (arith, r13, sum, some, full, most));
        r15 = ap (λ (r : Registers). r.r15) regs ∙ (let r15 = h.r15 in omega (arith, r15, sum, some, full, most));
      }

  turn : (k : ℕ) (e : Run) → Head s k e → Turning C (tree NODES) G (Head s) k e
  turn k e h =
      let i : ℕ = h.i in
      let p : ℕ = event_at i in
      let r = registers_of s in
      let f : Event → Event = undelivered r.r4 r.r5 in
      let sum = h.sum in
      let within = h.within in
      let t : KernelState = record s { events = h.events } in
      let valid_t : Valid t = valid_evented s h.events valid h.fit in
      record {
        leave = λ eq.
            let all : i ≡ length h.events = sym h.r13 ∙ eq ∙ h.r9 in
            through (undeliver_event s) most_steps _ _ h.quiet (answers most_steps t _ (undeliver_event s) (h.left ∙ ap (λ es. answered (record s { events = es }) 0) (from_end i f h.events all)) h.holds (omega (arith, within)));
        again = λ ne.
            let some : 0 < k = ⊎_elim (λ (z : k ≡ 0). absurd (ne (h.r13 ∙ (let q : i ≡ length h.events = omega (arith, z, sum) in q) ∙ sym h.r9)))
            (λ (nz : k ≡ 0 → ⊥). omega (arith, nz)) (cases_eq k 0) in
            let few : i < length h.events = omega (arith, some, sum) in
            let small : i < 64 = omega (arith, few, valid_t.events_most) in
            let o = field i small in
            let o0 = o e.regs.r15 0 h.r15 refl (omega arith) in
            let o4 = o e.regs.r15 4 h.r15 refl (omega arith) in
            let o8 = o e.regs.r15 8 h.r15 refl (omega arith) in
            let o12 = o e.regs.r15 12 h.r15 refl (omega arith) in
            let now : Event = slice_index_or h.events i no_event in
            let b = h.holds.reads.events i few in
            let class : word e.bytes (p + 0) ≡ now.class = b.0 in
            let status : word e.bytes (p + 4) ≡ now.status = b.1.0 in
            let spec : word e.bytes (p + 8) ≡ now.spec = b.1.1.0 in
            let mode : word e.bytes (p + 12) ≡ now.mode = b.1.1.1.0 in
            let stays : f now ≡ now → map_from i f h.events ≡ map_from (suc i) f h.events = λ q. from_same i f h.events few q in
            let is = chosen r.r4 r.r5 now in
            let ca : Bool = nat_eq now.class r.r4 in
            let cb : Bool = nat_eq now.status 0x4000 in
            let cc : Bool = nat_eq now.spec r.r5 in
            let cd : Bool = nat_eq now.mode 0x2000 in
            let new : List Event = slice_set h.events i (record now { status = 0x2000 }) in
            let fits : EventsFit s.events new =
            (let g = events_set h.events i (record now { status = 0x2000 }) (inr (inr (inl refl))) in
            record { count = g.count ∙ h.fit.count; fit = λ x. g.fit (h.fit.fit x) }) in
            rw (o0.here, o0.sort, o0.place) (
              λ a. rw (o4.here, o4.sort, o4.place) (
                λ q. rw (o8.here, o8.sort, o8.place) (
                  λ c. rw (o12.here, o12.sort, o12.place) (
                    λ d. rw (o4.here, o4.sort, o4.place) (
                        let same : f now ≡ record now { status = 0x2000 } =
                        is true true true true (eq-eqb now.class r.r4 (sym class ∙ a ∙ h.r4)) (eq-eqb now.status 0x4000 (sym status ∙ q ∙ h.r10)) (eq-eqb now.spec r.r5 (sym spec ∙ c ∙ h.r5)) (eq-eqb now.mode 0x2000 (sym mode ∙ d ∙ h.r8)) in (
                          k - 1,
                          omega (arith, some),
                          on k e h _ _ some new (length-set h.events i (record now { status = 0x2000 })) fits (from_set i f h.events few ∙ ap (λ x. map_from (suc i) f (slice_set h.events i x)) same)
                              (subst (λ v. Holds (record s { events = new }) (put_word e.bytes (p + 4) v)) (sym h.r12) (holds_status t valid_t e.bytes h.holds i 0x2000 few)) (omega arith) h.quiet refl,
                        )),
                    λ d. (k - 1, omega (arith, some), on k e h _ _ some h.events refl h.fit (stays (is ca cb cc false refl refl refl (ne_eqb now.mode 0x2000 (λ y. d (mode ∙ y ∙ sym h.r8))) ∙ off_4 ca cb cc now)) h.holds (omega arith) h.quiet refl),
                  ),
                  λ c. (k - 1, omega (arith, some), on k e h _ _ some h.events refl h.fit (stays (is ca cb false cd refl refl (ne_eqb now.spec r.r5 (λ y. c (spec ∙ y ∙ sym h.r5))) refl ∙ off_3 ca cb now)) h.holds (omega arith) h.quiet refl),
                ),
                λ q. (k - 1, omega (arith, some), on k e h _ _ some h.events refl h.fit (stays (is ca false cc cd refl (ne_eqb now.status 0x4000 (λ y. q (status ∙ y ∙ sym h.r10))) refl refl ∙ off_2 ca now)) h.holds (omega arith) h.quiet refl),
              ),
              λ a. (k - 1, omega (arith, some), on k e h _ _ some h.events refl h.fit (stays (is false cb cc cd (ne_eqb now.class r.r4 (λ y. a (class ∙ y ∙ sym h.r4))) refl refl refl)) h.holds (omega arith) h.quiet refl),
            );
      }

pub serves : Serves [] most_steps (call B20) UNDELIVER_EVENT (tree NODES)
serves s d z m h =
    let C : Calls = calls kernel_words tested_there in
    let count : word m 0xEA10 ≡ length s.events = h.holds.reads.variables.1.1.1.1.0 in
    start C (fair kernel_words tested_there) (tree NODES) UNDELIVER_EVENT (λ _. ⊥) (λ to e. Through (undeliver_event s) most_steps to e) (begun (called_with (registers_of s) d) z m)
    (looped C (fair kernel_words tested_there) (tree NODES) (G C s h.valid) (Head s) (turn C s h.valid) (length s.events) _
    record {
      i = 0;
      events = s.events;
      sum = omega arith;
      fit = events_same s.events;
      left = refl;
      within = (let most = h.valid.events_most in omega (arith, most));
      holds = h.holds;
      quiet = refl;
      r4 = refl;
      r5 = refl;
      r8 = refl;
      r9 = count;
      r10 = refl;
      r12 = refl;
      r13 = refl;
      r15 = refl;
    })
