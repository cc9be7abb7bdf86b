-- The listing of SCAN makes a scan.
use Rattle.psx_flow.proofs.Kit.{◌≡◌, ℕ, suc, ◌+◌, ◌-◌, ◌*◌, ◌%◌, ◌^◌, ◌<◌, ◌≤◌, ◌⊎◌, inl, inr, List, [], length, true, false, refl, sym, ap, ◌∙◌, subst, arith, ⊎_elim, Memory, word, put_word, Registers, Cop0, Run, Access, Meets, Goal, Calls, Fair, kernel_words, Part, Anew, Count, run, counted, ended, word_sort, Kernel, place}
use Rattle.std.proofs.lemmas.Bool.{cases_eq}
use Rattle.std.specs.Prelude.{◌/◌, nat_eq, slice_index_or, slice_set, if◌then◌else◌}
use Rattle.psx_base.specs.KernelState.{ThreadContext, Event, KernelState}
use Rattle.psx_flow.specs.Told.{ports}
use Rattle.psx_flow.proofs.Sound.{sound}
use Rattle.kern_layout.specs.Reads.{event_at, no_event}
use Rattle.kern_layout.proofs.MemoryStored.{word_stored}
use Rattle.kern_layout.proofs.Blocks.{put_other}
use Rattle.abs_kernel.specs.Scan.{is_marked, is_called, made_ready, scan}
use Rattle.abs_kernel.proofs.Evented.{EventsFit, events_same, events_set}
use Rattle.kern_stay.specs.Shared.{tree}
use Rattle.kern_stay.specs.Doors.{Holds}
use Rattle.kern_stay.proofs.Copying.{data_place, data_sort}
use Rattle.kern_stay.proofs.Looping.{Turning, looped}
use Rattle.kern_entry.specs.declared.places.TheConstants.{SCAN}
use Rattle.kern_entry.specs.declared.scan.TheConstants.{SCAN_NODES}
use Rattle.kern_entry.proofs.TasksHeld.{Sized, sized_events, Behind, behind_none, behind_put, holds_behind, holds_ready}
use Rattle.kern_entry.proofs.ScanSteps.{Done, Called, scan_is, Passed, other_class, other_status, other_spec, other_mode, is_ready, calls_none, calls_it, busy, busy_less}

-- ---- what a scan comes back with

-- the words of the tasks in the area are those of before, from an address on
abbrev pub TasksSame : (m n : Memory) (from : ℕ) → Type 0
TasksSame m n from = (a : ℕ) → a % 4 ≡ 0 → from ≤ a → a < 0xEC80 → word n a ≡ word m a

-- all events were looked at
pub record ScanDone (s t : KernelState) (class spec from : ℕ) (m n : Memory) (function : ℕ) : Type 0 where
  pub none : function ≡ 0
  pub is : (done : Done) (called : Called) → scan (length s.events - from) class spec from s done called ≡ done t
  pub tasks : TasksSame m n 0xEB98

-- or the next one would be, when the function comes back
pub record ScanCalls (s t : KernelState) (class spec from : ℕ) (m n : Memory) (function : ℕ) : Type 0 where
  pub some : function ≡ 0 → ⊥
  pub next : ℕ
  pub few : next ≤ length s.events
  pub is : (done : Done) (called : Called) → scan (length s.events - from) class spec from s done called ≡ called t function next
  pub kind : word n 0xEB98 ≡ 2
  pub class_is : word n 0xEB9C ≡ class
  pub spec_is : word n 0xEBA0 ≡ spec
  pub event_is : word n 0xEBA4 ≡ next
  pub tasks : TasksSame m n 0xEBA8

pub record Scanned (s : KernelState) (c : ThreadContext) (class spec from : ℕ) (m n : Memory) (function before after : ℕ) : Type 0 where
  pub events : List Event
  pub fit : EventsFit s.events events
  pub holds : Holds (record s { events = events; running = c }) n
  pub end : ScanDone s (record s { events = events }) class spec from m n function ⊎ ScanCalls s (record s { events = events }) class spec from m n function
  pub within : after + busy events ≤ before + 22 * (length s.events - from) + busy s.events + 24

abbrev pub behind_scan : Registers → Registers → Registers
behind_scan c a = record c { r3 = a.r3; r6 = a.r6; r7 = a.r7; r8 = a.r8; r9 = a.r9; r11 = a.r11; r12 = a.r12; r15 = a.r15; r16 = a.r16; r20 = a.r20; hi = a.hi; lo = a.lo }

abbrev pub ScanKnown : Part → KernelState → ThreadContext → Memory → Registers → List Access → Count → Type 0
ScanKnown K s t m c q p =
    (a : Registers) (z : Cop0) (n : Memory) (u : List Access) (p' : Count) → ports u ≡ ports q → Scanned s t c.r4 c.r5 c.r13 m n a.r16 p.steps p'.steps → K (behind_scan c a) z n [] u p'

-- ---- an event's fields, from the end of its block

record Field (i r back o : ℕ) : Type 0 where
  here : ((r + 0x1C) % 2 ^ 32 + back) % 2 ^ 32 ≡ 0x80000000 + (event_at i + o)
  sort : word_sort (0x80000000 + (event_at i + o)) ≡ Kernel
  place : place (0x80000000 + (event_at i + o)) ≡ event_at i + o

field : (i r back o : ℕ) → i < 64 → r ≡ 0x80000000 + event_at i → back ≡ 2 ^ 32 + o - 0x1C → o % 4 ≡ 0 → o < 0x1C → Field i r back o
field i r back o lt e b even low = record {
  here = omega (arith, e, b, lt, low);
  sort = data_sort (event_at i + o) (omega (arith, even)) (omega arith) (omega (arith, lt, low));
  place = data_place (event_at i + o) (omega (arith, lt, low));
}

-- the class stands first
record Class (i r : ℕ) : Type 0 where
  here : (r + 0) % 2 ^ 32 ≡ 0x80000000 + (event_at i + 0)
  sort : word_sort (0x80000000 + (event_at i + 0)) ≡ Kernel
  place : place (0x80000000 + (event_at i + 0)) ≡ event_at i + 0

class_field : (i r : ℕ) → i < 64 → r ≡ 0x80000000 + event_at i → Class i r
class_field i r lt e = record {
  here = omega (arith, e, lt);
  sort = data_sort (event_at i + 0) (omega arith) (omega arith) (omega (arith, lt));
  place = data_place (event_at i + 0) (omega (arith, lt));
}

-- ---- the loop

-- at its head, with k events to come
record Head (s : KernelState) (t : ThreadContext) (m : Memory) (c : Registers) (q : List Access) (p : Count) (k : ℕ) (e : Run) : Type 0 where
  i : ℕ
  events : List Event
  sum : i + k ≡ length s.events
  fit : EventsFit s.events events
  left : (done : Done) (called : Called) → scan (length s.events - c.r13) c.r4 c.r5 c.r13 s done called ≡ scan k c.r4 c.r5 i (record s { events = events }) done called
  within : e.steps + 22 * k + busy events ≤ p.steps + 22 * (length s.events - c.r13) + busy s.events + 13
  holds : Holds (record s { events = events; running = t }) e.bytes
  tasks : TasksSame m e.bytes 0xEB98
  quiet : ports e.seen ≡ ports q
  regs : e.regs ≡ behind_scan c e.regs
  r6 : e.regs.r6 ≡ 0x4000
  r7 : e.regs.r7 ≡ 0x1000
  r9 : e.regs.r9 ≡ 0x80000000 + event_at (length s.events)
  r12 : e.regs.r12 ≡ 0x2000
  r15 : e.regs.r15 ≡ 0x80000000 + event_at i
  r20 : e.regs.r20 ≡ 0x80000000 + 0xBC00

-- what a turn changes in the registers
abbrev turned : Registers → (a3 a8 a11 a16 : ℕ) → Registers
turned r a3 a8 a11 a16 = record r { r3 = a3; r8 = a8; r11 = a11; r15 = (r.r15 + 0x1C) % 2 ^ 32; r16 = a16 }

module _ (C : Calls) (fair : Fair C) (s : KernelState) (t : ThreadContext) (z : Sized s) (m : Memory) (c : Registers) (r14 : c.r14 ≡ 0x80010000) (few_from : c.r13 ≤ length s.events) (q : List Access) (p : Count) (K : Part) (known : ScanKnown K s t m c q p) where
  abbrev G : ℕ → Goal
  G to e = (to ≡ c.r31) × Anew K e

  abbrev Inv : ℕ → Goal
  Inv k e = Head s t m c q p k e

  -- back to the caller
  comes : (e : Run) → e.regs ≡ behind_scan c e.regs → ports e.seen ≡ ports q → Scanned s t c.r4 c.r5 c.r13 m e.bytes e.regs.r16 p.steps e.steps → G e.regs.r31 e
  comes e kept quiet done = (
    ap (λ r. r.r31) kept,
    record { memory = e.bytes; log = []; same = refl; sorted = tt; goes = subst (λ r. K r e.cop0 e.bytes [] e.seen (counted e)) (sym kept) (known e.regs e.cop0 e.bytes e.seen (counted e) quiet done) },
  )

  module _ (k : ℕ) (e : Run) (h : Inv k e) where
    abbrev i : ℕ
    i = h.i

    abbrev now : Event
    now = slice_index_or h.events i no_event

    abbrev state : KernelState
    state = record s { events = h.events }

    count : length h.events ≡ length s.events
    count = h.fit.count

    -- the loop is left
    finishes : e.regs.r15 ≡ e.regs.r9 → k ≡ 0
    finishes eq = let a = h.r15 in let b = h.r9 in let sum = h.sum in omega (arith, eq, a, b, sum)

    -- the next event, with the events as they are then
    on : (n : Run) (a3 a8 a11 a16 : ℕ) → 0 < k → (events : List Event) → EventsFit s.events events
        → ((done : Done) (called : Called) → scan (suc (k - 1)) c.r4 c.r5 i state done called ≡ scan (k - 1) c.r4 c.r5 (suc i) (record s { events = events }) done called)
        → Holds (record s { events = events; running = t }) n.bytes → TasksSame m n.bytes 0xEB98 → n.steps + busy events ≤ e.steps + busy h.events + 22 → ports n.seen ≡ ports q → n.regs ≡ turned e.regs a3 a8 a11 a16 → Inv (k - 1) n
    on n a3 a8 a11 a16 some events fit is holds tasks within quiet regs =
        let sum = h.sum in
        let all = h.within in
        let most = z.events in
        let one : suc (k - 1) ≡ k = omega (arith, some) in
        record {
          i = suc i;
          events = events;
          sum = omega (arith, sum, some);
          fit = fit;
          left = λ done called. h.left done called ∙ ap (λ j. scan j c.r4 c.r5 i state done called) (sym one) ∙ is done called;
          within = omega (arith, all, within, some);
          holds = holds;
          tasks = tasks;
          quiet = quiet;
          regs = subst (λ r. r ≡ behind_scan c r) (sym regs) (λ j. turned (h.regs j) a3 a8 a11 a16);
          r6 = ap (λ r. r.r6) regs ∙ h.r6;
          r7 = ap (λ r. r.r7) regs ∙ h.r7;
          r9 = ap (λ r. r.r9) regs ∙ h.r9;
          r12 = ap (λ r. r.r12) regs ∙ h.r12;
          r15 = ap (λ r. r.r15) regs ∙ (let r15 = h.r15 in omega (arith, r15, sum, some, most));
          r20 = ap (λ r. r.r20) regs ∙ h.r20;
        }

    -- with an event that is passed over
    past : (n : Run) (a3 a8 a11 a16 : ℕ) → 0 < k → Passed c.r4 c.r5 now → n.bytes ≡ e.bytes → n.steps ≤ e.steps + 22 → ports n.seen ≡ ports q → n.regs ≡ turned e.regs a3 a8 a11 a16 → (y : ℕ) × (y < k) × Inv y n
    past n a3 a8 a11 a16 some passed same few quiet regs = (
      k - 1,
      omega (arith, some),
      on n a3 a8 a11 a16 some h.events h.fit (λ done called. scan_is (k - 1) c.r4 c.r5 i state done called false false passed.marked passed.called)
          (subst (λ b. Holds (record s { events = h.events; running = t }) b) (sym same) h.holds) (subst (λ b. TasksSame m b 0xEB98) (sym same) h.tasks) (omega (arith, few)) quiet regs,
    )

    -- with one that becomes ready
    marks : (n : Run) (a3 a8 a11 a16 : ℕ) → 0 < k → now.status ≡ 0x2000 → is_marked c.r4 c.r5 now ≡ true → n.bytes ≡ put_word e.bytes (event_at i + 4) e.regs.r6 → n.steps ≤ e.steps + 23 → ports n.seen ≡ ports q → n.regs ≡ turned e.regs a3 a8 a11 a16 → (y : ℕ) × (y < k) × Inv y n
    marks n a3 a8 a11 a16 some was marked same few quiet regs =
        let sum = h.sum in
        let len = count in
        let lt : i < length h.events = omega (arith, some, sum, len) in
        let small : i < 64 = omega (arith, lt, len, z.events) in
        let new : List Event = slice_set h.events i (made_ready now) in
        let zs : Sized state = sized_events s h.events len z in
        let bytes : n.bytes ≡ put_word e.bytes (event_at i + 4) 0x4000 = same ∙ ap (put_word e.bytes (event_at i + 4)) h.r6 in
        let less = busy_less h.events i (made_ready now) lt was refl in
        let fits : EventsFit s.events new = (let g = events_set h.events i (made_ready now) (inr (inr (inr refl))) in record { count = g.count ∙ len; fit = λ x. g.fit (h.fit.fit x) }) in (
          k - 1,
          omega (arith, some),
          on n a3 a8 a11 a16 some new fits (λ done called. scan_is (k - 1) c.r4 c.r5 i state done called true _ marked refl)
              (subst (λ b. Holds (record s { events = new; running = t }) b) (sym bytes) (holds_ready state t zs e.bytes h.holds i lt))
              (λ a al lo up. ap (λ b. word b a) bytes ∙ word_stored e.bytes (event_at i + 4) 0x4000 a (omega arith) al ∙ put_other (word e.bytes) (event_at i + 4) 0x4000 a (λ x. omega (arith, x, lo, small)) ∙ h.tasks a al lo up) (omega (arith, few, less)) quiet regs,
        )

    -- the memory in which the scan from the next event on is the task under way
    abbrev calling : Memory
    calling = put_word (put_word (put_word (put_word e.bytes 0xEB9C e.regs.r4) 0xEBA0 e.regs.r5) 0xEBA4 (suc i)) 0xEB98 2

    -- with one whose function is called
    calls : (n : Memory) (function after : ℕ) → 0 < k → is_marked c.r4 c.r5 now ≡ false → is_called c.r4 c.r5 now ≡ true → (function ≡ 0 → ⊥) → function ≡ now.function → n ≡ calling → after ≤ e.steps + 31
        → Scanned s t c.r4 c.r5 c.r13 m n function p.steps after
    calls n function after some marked called there is same few =
        let sum = h.sum in
        let all = h.within in
        let len = count in
        let one : suc (k - 1) ≡ k = omega (arith, some) in
        let r4 : e.regs.r4 ≡ c.r4 = ap (λ r. r.r4) h.regs in
        let r5 : e.regs.r5 ≡ c.r5 = ap (λ r. r.r5) h.regs in
        let m1 = put_word e.bytes 0xEB9C e.regs.r4 in
        let m2 = put_word m1 0xEBA0 e.regs.r5 in
        let m3 = put_word m2 0xEBA4 (suc i) in
        let b1 = behind_put e.bytes e.bytes 0xEB9C e.regs.r4 refl (omega arith) (omega arith) (behind_none e.bytes) in
        let b2 = behind_put e.bytes m1 0xEBA0 e.regs.r5 refl (omega arith) (omega arith) b1 in
        let b3 = behind_put e.bytes m2 0xEBA4 (suc i) refl (omega arith) (omega arith) b2 in
        let b4 : Behind e.bytes calling = behind_put e.bytes m3 0xEB98 2 refl (omega arith) (omega arith) b3 in
        let at : (a : ℕ) → a % 4 ≡ 0 → word calling a ≡ (if nat_eq a 0xEB98 then 2 else (if nat_eq a 0xEBA4 then suc i else (if nat_eq a 0xEBA0 then e.regs.r5 else (if nat_eq a 0xEB9C then e.regs.r4 else word e.bytes a)))) = λ a al.
        word_stored m3 0xEB98 2 a refl al ∙ ap (λ x. if nat_eq a 0xEB98 then 2 else x) (word_stored m2 0xEBA4 (suc i) a refl al ∙ ap (λ x. if nat_eq a 0xEBA4 then suc i else x) (word_stored m1 0xEBA0 e.regs.r5 a refl al ∙ ap (λ x. if nat_eq a 0xEBA0 then e.regs.r5 else x) (word_stored e.bytes 0xEB9C e.regs.r4 a refl al))) in
        record {
          events = h.events;
          fit = h.fit;
          holds = subst (λ b. Holds (record s { events = h.events; running = t }) b) (sym same) (holds_behind state t (sized_events s h.events len z) e.bytes calling b4 h.holds);
          end = inr (record {
            some = there;
            next = suc i;
            few = omega (arith, sum, some);
            is = λ done called'. h.left done called' ∙ ap (λ j. scan j c.r4 c.r5 i state done called') (sym one) ∙ scan_is (k - 1) c.r4 c.r5 i state done called' false true marked called ∙ ap (λ f. called' state f (suc i)) (sym is);
            kind = ap (λ b. word b 0xEB98) same ∙ at 0xEB98 refl;
            class_is = ap (λ b. word b 0xEB9C) same ∙ at 0xEB9C refl ∙ r4;
            spec_is = ap (λ b. word b 0xEBA0) same ∙ at 0xEBA0 refl ∙ r5;
            event_is = ap (λ b. word b 0xEBA4) same ∙ at 0xEBA4 refl;
            tasks = λ a al lo up. ap (λ b. word b a) same
                ∙ word_stored m3 0xEB98 2 a refl al ∙ put_other (word m3) 0xEB98 2 a (λ x. omega (arith, x, lo))
                ∙ word_stored m2 0xEBA4 (suc i) a refl al ∙ put_other (word m2) 0xEBA4 (suc i) a (λ x. omega (arith, x, lo))
                ∙ word_stored m1 0xEBA0 e.regs.r5 a refl al ∙ put_other (word m1) 0xEBA0 e.regs.r5 a (λ x. omega (arith, x, lo))
                ∙ word_stored e.bytes 0xEB9C e.regs.r4 a refl al ∙ put_other (word e.bytes) 0xEB9C e.regs.r4 a (λ x. omega (arith, x, lo))
                ∙ h.tasks a al (omega (arith, lo)) up;
          });
          within = omega (arith, all, few, some);
        }

  turn : (k : ℕ) (e : Run) → Inv k e → Turning C (tree SCAN_NODES) G Inv k e
  turn k e h =
      let i : ℕ = h.i in
      let sum = h.sum in
      let within = h.within in
      let len : length h.events ≡ length s.events = h.fit.count in
      let most = z.events in
      record {
        leave = λ eq.
            let none : k ≡ 0 = finishes k e h eq in
            comes _ (λ j. record (h.regs j) { r16 = 0 }) h.quiet record {
              events = h.events;
              fit = h.fit;
              holds = h.holds;
              end = inl (record { none = refl; is = λ done called. h.left done called ∙ ap (λ j. scan j c.r4 c.r5 i (record s { events = h.events }) done called) none; tasks = h.tasks });
              within = omega (arith, within);
            };
        again = λ ne.
            let some : 0 < k = ⊎_elim (λ (n : k ≡ 0). absurd (ne (h.r15 ∙ (let g : i ≡ length s.events = omega (arith, n, sum) in ap (λ j. 0x80000000 + event_at j) g) ∙ sym h.r9))) (λ (nz : k ≡ 0 → ⊥). omega (arith, nz)) (cases_eq k 0) in
            let few : i < length h.events = omega (arith, some, sum, len) in
            let small : i < 64 = omega (arith, few, len, most) in
            let now : Event = slice_index_or h.events i no_event in
            let b = h.holds.reads.events i few in
            let class : word e.bytes (event_at i + 0) ≡ now.class = b.0 in
            let status : word e.bytes (event_at i + 4) ≡ now.status = b.1.0 in
            let spec : word e.bytes (event_at i + 8) ≡ now.spec = b.1.1.0 in
            let mode : word e.bytes (event_at i + 12) ≡ now.mode = b.1.1.1.0 in
            let function : word e.bytes (event_at i + 16) ≡ now.function = b.1.1.1.1.0 in
            let o0 = class_field i e.regs.r15 small h.r15 in
            let o4 = field i e.regs.r15 0xFFFFFFE8 4 small h.r15 refl refl (omega arith) in
            let o8 = field i e.regs.r15 0xFFFFFFEC 8 small h.r15 refl refl (omega arith) in
            let o12 = field i e.regs.r15 0xFFFFFFF0 12 small h.r15 refl refl (omega arith) in
            let o16 = field i e.regs.r15 0xFFFFFFF4 16 small h.r15 refl refl (omega arith) in
            let r4 : e.regs.r4 ≡ c.r4 = ap (λ r. r.r4) h.regs in
            let r5 : e.regs.r5 ≡ c.r5 = ap (λ r. r.r5) h.regs in
            let upper : e.regs.r14 ≡ 0x80010000 = ap (λ r. r.r14) h.regs ∙ r14 in
            let number : ((e.regs.r15 + 0x1C) % 2 ^ 32 + 2 ^ 32 - e.regs.r20) % 2 ^ 32 / 28 ≡ suc i = omega (arith, h.r15, h.r20, small) in
            rw (o0.here, o0.sort, o0.place) (
              λ a.
                  let of_class : now.class ≡ c.r4 = sym class ∙ a ∙ r4 in
                  rw (o4.here, o4.sort, o4.place, o8.here, o8.sort, o8.place, o12.here, o12.sort, o12.place) (
                    λ p.
                        let is_busy : now.status ≡ 0x2000 = sym status ∙ p ∙ h.r12 in (
                          λ q.
                              let of_spec : now.spec ≡ c.r5 = sym spec ∙ q ∙ r5 in (
                                λ other.
                                    let no : now.mode ≡ 0x1000 → ⊥ = λ x. other (mode ∙ x ∙ sym h.r7) in (
                                      λ marked. rw (o4.here, o4.sort, o4.place) (marks k e h _ _ _ _ _ some is_busy (is_ready c.r4 c.r5 now is_busy of_class of_spec (sym mode ∙ marked ∙ h.r12)) refl (omega arith) h.quiet refl),
                                      λ not. past k e h _ _ _ _ _ some (other_mode c.r4 c.r5 now is_busy of_class of_spec no (λ x. not (mode ∙ x ∙ sym h.r12))) refl (omega arith) h.quiet refl,
                                    ),
                                λ calling. rw (o16.here, o16.sort, o16.place) (
                                  λ there. rw (upper, number) (
                                      let way = calls_it c.r4 c.r5 now is_busy of_class of_spec (sym mode ∙ calling ∙ h.r7) (λ x. there (function ∙ x)) in
                                      comes _
                                      (λ j. record (h.regs j) {
                                        r3 = word e.bytes (event_at i + 12);
                                        r8 = suc i;
                                        r11 = 2;
                                        r14 = sym r14 j;
                                        r15 = (e.regs.r15 + 0x1C) % 2 ^ 32;
                                        r16 = word e.bytes (event_at i + 16);
                                        hi = ((e.regs.r15 + 0x1C) % 2 ^ 32 + 2 ^ 32 - e.regs.r20) % 2 ^ 32 % 28;
                                        lo = suc i;
                                      }) h.quiet
                                      (calls k e h _ _ _ some way.0 way.1 there function refl (omega arith))),
                                  λ none. past k e h _ _ _ _ _ some (calls_none c.r4 c.r5 now is_busy of_class of_spec (sym mode ∙ calling ∙ h.r7) (sym function ∙ none)) refl (omega arith) h.quiet refl,
                                ),
                              ),
                          λ q. past k e h _ _ _ _ _ some (other_spec c.r4 c.r5 now is_busy of_class (λ x. q (spec ∙ x ∙ sym r5))) refl (omega arith) h.quiet refl,
                        ),
                    λ p. past k e h _ _ _ _ _ some (other_status c.r4 c.r5 now (λ x. p (status ∙ x ∙ sym h.r12))) refl (omega arith) h.quiet refl,
                  ),
              λ a. past k e h _ _ _ _ _ some (other_class c.r4 c.r5 now (λ x. a (class ∙ x ∙ sym r4))) refl (omega arith) h.quiet refl,
            );
      }

  pub scans : (z : Cop0) → Holds (record s { running = t }) m → Meets kernel_words C (tree SCAN_NODES) SCAN (λ _. ⊥) G (run c z m [] q p)
  scans z0 holds =
      let count : word m 0xEA10 ≡ length s.events = holds.reads.variables.1.1.1.1.0 in
      let most = z.events in
      sound C fair (tree SCAN_NODES) SCAN (ended (λ _. ⊥)) (λ _. ⊥) G (λ c z m w q p ok h. h) c z0 m [] q p tt (rw (r14) (looped C fair (tree SCAN_NODES) G Inv turn (length s.events - c.r13) _ record {
        i = c.r13;
        events = s.events;
        sum = omega (arith, few_from);
        fit = events_same s.events;
        left = λ done called. refl;
        within = omega arith;
        holds = holds;
        tasks = λ a al lo up. refl;
        quiet = refl;
        regs = λ j. record c {
          r6 = 0x4000;
          r7 = 0x1000;
          r9 = ((word m 0xEA10 * 2 ^ 5 % 2 ^ 32 + 2 ^ 32 - word m 0xEA10 * 2 ^ 2 % 2 ^ 32) % 2 ^ 32 + 0x8000BC00) % 2 ^ 32;
          r11 = c.r13 * 2 ^ 5 % 2 ^ 32;
          r12 = 0x2000;
          r14 = sym r14 j;
          r15 = ((c.r13 * 2 ^ 5 % 2 ^ 32 + 2 ^ 32 - c.r13 * 2 ^ 2 % 2 ^ 32) % 2 ^ 32 + 0x8000BC00) % 2 ^ 32;
          r20 = 0x8000BC00;
        };
        r6 = refl;
        r7 = refl;
        r9 = omega (arith, count, most);
        r12 = refl;
        r15 = omega (arith, few_from, most);
        r20 = refl;
      }))
