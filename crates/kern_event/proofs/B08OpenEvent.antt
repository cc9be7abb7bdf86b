-- OpenEvent meets its stay.
use Rattle.psx_flow.proofs.Kit.{◌≡◌, ℕ, suc, ◌+◌, ◌-◌, ◌*◌, ◌%◌, ◌<◌, ◌≤◌, [], refl, sym, ap, ◌∙◌, subst, arith, ⊎_elim, Memory, word, put_word, Run, Goal, Calls, calls, kernel_words, fair, start, true, false}
use Rattle.std.proofs.Common.{zero, length}
use Rattle.std.proofs.lemmas.Bool.{cases_eq}
use Rattle.std.specs.Prelude.{Bool, if◌then◌else◌}
use Rattle.psx_base.specs.KernelState.{Event, KernelState}
use Rattle.psx_flow.specs.Told.{ports}
use Rattle.kern_layout.specs.Reads.{event_at, event_fields, event}
use Rattle.abs_kernel.specs.Answered.{registers_of, answered}
use Rattle.abs_kernel.specs.Events.{event_handle, has_status}
use Rattle.abs_kernel.specs.OpenEvent.{with_opened, opens_from, open_event}
use Rattle.abs_kernel.specs.declared.calls.CallId.TheVariants.{B08}
use Rattle.abs_kernel.specs.Calls.{call}
use Rattle.kern_stay.specs.Shared.{tree, tested_there}
use Rattle.kern_stay.specs.Doors.{Holds, Arrives, Through, Serves, called_with, begun, most_steps}
use Rattle.kern_stay.proofs.Ending.{through, answers}
use Rattle.kern_stay.proofs.Looping.{Turning, looped}
use Rattle.kern_event.specs.declared.places.TheConstants.{OPEN_EVENT}
use Rattle.kern_event.specs.declared.b08_open_event.TheConstants.{NODES}
use Rattle.kern_event.proofs.EventsHeld.{status_is, is_so, isnt_so, field, unwritten, written, holds_written}

-- the slots from i on, where there is one
takes : (k i : ℕ) (s : KernelState) (b : Bool) → 0 < k → has_status s i 0 ≡ b → opens_from k s i ≡ (if b then answered (with_opened s i) (event_handle i) else opens_from (k - 1) s (suc i))
takes zero i s b h e = absurd (omega arith)
takes (suc k) i s b h e =
    let z : k ≡ suc k - 1 = omega arith in
    ap (λ c. if c then answered (with_opened s i) (event_handle i) else opens_from k s (suc i)) e ∙ ap (λ j. if b then answered (with_opened s i) (event_handle i) else opens_from j s (suc i)) z

-- at the loop's head, with k slots to come
record Head (s : KernelState) (m : Memory) (k : ℕ) (e : Run) : Type 0 where
  i : ℕ
  sum : i + k ≡ length s.events
  left : open_event s ≡ opens_from k s i
  within : e.steps + 20 * k ≤ 2000
  bytes : e.bytes ≡ m
  quiet : ports e.seen ≡ []
  r2 : e.regs.r2 ≡ 0xF1000000
  r4 : e.regs.r4 ≡ (registers_of s).r4
  r5 : e.regs.r5 ≡ (registers_of s).r5
  r6 : e.regs.r6 ≡ (registers_of s).r6
  r7 : e.regs.r7 ≡ (registers_of s).r7
  r9 : e.regs.r9 ≡ length s.events
  r10 : e.regs.r10 ≡ 0x1000
  r13 : e.regs.r13 ≡ i
  r15 : e.regs.r15 ≡ 0x80000000 + event_at i

module _ (C : Calls) (s : KernelState) (m : Memory) (h : Arrives s m) where
  abbrev G : ℕ → Goal
  G to e = Through (open_event s) most_steps to e

  abbrev stored : (p class status spec mode function : ℕ) → Memory
  stored p class status spec mode function = put_word (put_word (put_word (put_word (put_word m (p + 0) class) (p + 4) status) (p + 8) spec) (p + 12) mode) (p + 16) function

  opened : (i : ℕ) → i < length s.events → Holds (with_opened s i) (let r = registers_of s in stored (event_at i) r.r4 0x1000 r.r5 r.r6 r.r7)
  opened i few =
      let r = registers_of s in
      let p : ℕ = event_at i in
      let even : p % 4 ≡ 0 = omega arith in
      let now : ℕ → ℕ → ℕ → ℕ → ℕ → Event = λ class status spec mode function. record { status = status; class = class; spec = spec; mode = mode; function = function } in
      let e : Event = event s i in
      let w0 = unwritten m p (event_fields i e) (h.holds.reads.events i few) in
      let w1 = written m _ p 0 r.r4 (event_fields i e) even refl (omega arith) refl w0 in
      let w2 = written m _ p 4 0x1000 (event_fields i (now r.r4 e.status e.spec e.mode e.function)) even refl (omega arith) refl w1 in
      let w3 = written m _ p 8 r.r5 (event_fields i (now r.r4 0x1000 e.spec e.mode e.function)) even refl (omega arith) refl w2 in
      let w4 = written m _ p 12 r.r6 (event_fields i (now r.r4 0x1000 r.r5 e.mode e.function)) even refl (omega arith) refl w3 in
      let w5 = written m _ p 16 r.r7 (event_fields i (now r.r4 0x1000 r.r5 r.r6 e.function)) even refl (omega arith) refl w4 in
      holds_written s h.valid m _ h.holds i (now r.r4 0x1000 r.r5 r.r6 r.r7) few w5

  turn : (k : ℕ) (e : Run) → Head s m k e → Turning C (tree NODES) G (Head s m) k e
  turn k e h1 =
      let i : ℕ = h1.i in
      let p : ℕ = event_at i in
      let sum = h1.sum in
      let within = h1.within in
      let valid = h.valid in
      record {
        leave = λ eq.
            let all : k ≡ 0 = omega (arith, eq, h1.r13, h1.r9, sum) in
            let there : Holds s e.bytes = subst (Holds s) (sym h1.bytes) h.holds in
            through (open_event s) most_steps _ _ h1.quiet (answers most_steps s _ (open_event s) (h1.left ∙ ap (λ j. opens_from j s i) all) there (omega (arith, within)));
        again = λ ne.
            let some : 0 < k = ⊎_elim (λ (z : k ≡ 0). absurd (ne (h1.r13 ∙ (let q : i ≡ length s.events = omega (arith, z, sum) in q) ∙ sym h1.r9)))
            (λ (nz : k ≡ 0 → ⊥). omega (arith, nz)) (cases_eq k 0) in
            let few : i < length s.events = omega (arith, some, sum) in
            let small : i < 64 = omega (arith, few, valid.events_most) in
            let f = field i small in
            let o0 = f e.regs.r15 0 h1.r15 refl (omega arith) in
            let o4 = f e.regs.r15 4 h1.r15 refl (omega arith) in
            let o8 = f e.regs.r15 8 h1.r15 refl (omega arith) in
            let o12 = f e.regs.r15 12 h1.r15 refl (omega arith) in
            let o16 = f e.regs.r15 16 h1.r15 refl (omega arith) in
            let status : word e.bytes (p + 4) ≡ (event s i).status = ap (λ b. word b (p + 4)) h1.bytes ∙ status_is s m h.holds i few in
            rw (o4.here, o4.sort, o4.place) (
              λ free.
                  rw (o0.here, o0.sort, o0.place, o4.here, o4.sort, o4.place) (
                  rw (o8.here, o8.sort, o8.place, o12.here, o12.sort, o12.place, o16.here, o16.sort, o16.place) (
                  through (open_event s) most_steps _ _ h1.quiet (answers most_steps (with_opened s i) _ (open_event s)
                  (h1.left ∙ takes k i s true some (is_so s i 0 (sym status ∙ free)) ∙ ap (answered (with_opened s i)) (omega (arith, h1.r2, h1.r13, small)))
                  (subst (Holds (with_opened s i)) (λ j. put_word (put_word (put_word (put_word (put_word (sym h1.bytes j) (p + 0) (sym h1.r4 j)) (p + 4) (sym h1.r10 j)) (p + 8) (sym h1.r5 j)) (p + 12) (sym h1.r6 j)) (p + 16) (sym h1.r7 j)) (opened i few))
                  (omega (arith, within, some))))),
              λ used. (
                k - 1,
                omega (arith, some),
                record {
                  i = suc i;
                  sum = omega (arith, sum, some);
                  left = h1.left ∙ takes k i s false some (isnt_so s i 0 (λ q. used (status ∙ q)));
                  within = omega (arith, within, some);
                  bytes = h1.bytes;
                  quiet = h1.quiet;
                  r2 = h1.r2;
                  r4 = h1.r4;
                  r5 = h1.r5;
                  r6 = h1.r6;
                  r7 = h1.r7;
                  r9 = h1.r9;
                  r10 = h1.r10;
                  r13 = omega (arith, h1.r13, small);
                  r15 = omega (arith, h1.r15, small);
                },
              ),
            );
      }

pub serves : Serves [] most_steps (call B08) OPEN_EVENT (tree NODES)
serves s d z m h =
    let C : Calls = calls kernel_words tested_there in
    let valid = h.valid in
    let count : word m 0xEA10 ≡ length s.events = h.holds.reads.variables.1.1.1.1.0 in
    start C (fair kernel_words tested_there) (tree NODES) OPEN_EVENT (λ _. ⊥) (λ to e. Through (open_event s) most_steps to e) (begun (called_with (registers_of s) d) z m)
    (looped C (fair kernel_words tested_there) (tree NODES) (G C s m h) (Head s m) (turn C s m h) (length s.events) _
    record {
      i = 0;
      sum = omega arith;
      left = refl;
      within = omega (arith, valid.events_most);
      bytes = refl;
      quiet = refl;
      r2 = refl;
      r4 = refl;
      r5 = refl;
      r6 = refl;
      r7 = refl;
      r9 = count;
      r10 = refl;
      r13 = refl;
      r15 = refl;
    })
