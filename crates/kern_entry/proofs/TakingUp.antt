-- TAKE_UP takes up a context, or the thread that a callback has named.
use Rattle.psx_flow.proofs.Kit.{◌≡◌, ℕ, suc, ◌+◌, ◌-◌, ◌%◌, ◌^◌, ◌<◌, ◌≤◌, [], ◌∷◌, length, refl, sym, ap, ◌∙◌, subst, arith, Memory, word, put_word, Registers, Cop0, Run, Meets, calls, kernel_words, fair, start, ◌++◌}
use Rattle.std.proofs.Common.{List, Option, get_or-set_other}
use Rattle.std.specs.Prelude.{Some, None, slice_set, if◌then◌else◌}
use Rattle.psx_base.specs.Context.{taken, epc_of}
use Rattle.psx_base.specs.KernelState.{ThreadContext, Thread, Free, Frame, KernelState}
use Rattle.psx_flow.specs.Told.{ports}
use Rattle.kern_layout.specs.Reads.{thread, thread_at, next_word}
use Rattle.abs_kernel.specs.Stay.{Stay, Return}
use Rattle.abs_kernel.specs.Answered.{with_running}
use Rattle.abs_kernel.specs.Switching.{keeps, context_of}
use Rattle.abs_kernel.specs.TakingUp.{taken_up, resumed_by, resumed}
use Rattle.abs_kernel.specs.WorkLaws.{IsNext, Working}
use Rattle.abs_kernel.proofs.Delivered.{taken_up_as_kept}
use Rattle.kern_stay.specs.Shared.{tree, tested_there}
use Rattle.kern_stay.specs.Copy.{WordsCopied}
use Rattle.kern_stay.specs.Switch.{SlotKept}
use Rattle.kern_stay.specs.Doors.{Holds, Ends, ThroughTo, Nowhere, TakesUp, Makes, begun, most_take_up_steps}
use Rattle.kern_stay.specs.declared.places.TheConstants.{WAIT, TAKE_UP}
use Rattle.kern_stay.proofs.NextForgotten.{next_forgotten}
use Rattle.kern_stay.proofs.FramePopped.{no_frames}
use Rattle.kern_stay.proofs.Slots.{block_of, at_thread, status_is, UsedAs, used_by, kept_used, kept_free, slot_halves}
use Rattle.kern_stay.proofs.Switching.{switched_from, made, rests, rest_taken}
use Rattle.kern_entry.specs.declared.take_up.TheConstants.{TAKE_UP_NODES}
use Rattle.kern_entry.specs.FramesOwn.{frames_own}
use Rattle.kern_entry.proofs.FrameCalls.{frames_half, ends_at}

-- ---- the thread to take up, by its word

record Named (o : Option ℕ) (v : ℕ) : Type 0 where
  number : ℕ
  is : o ≡ Some number
  word : v ≡ suc number

named : (o : Option ℕ) (v : ℕ) → v ≡ next_word o → (v ≡ 0 → ⊥) → Named o v
named None v e ne = absurd (ne e)
named (Some n) v e ne = record { number = n; is = refl; word = e }

none_named : (o : Option ℕ) → next_word o ≡ 0 → o ≡ None
none_named None e = refl
none_named (Some n) e = absurd (omega (arith, e))

-- while a frame is there the thread that is named waits
waits_on : (s : KernelState) (c : ThreadContext) (o : Option ℕ) (fs : List Frame) → (length fs ≡ 0 → ⊥) → resumed_by s c o fs ≡ record s { running = taken_up c }
waits_on s c None fs ne = refl
waits_on s c (Some n) [] ne = absurd (ne refl)
waits_on s c (Some n) (f ∷ fs) ne = refl

module _ (s : KernelState) (c : ThreadContext) (m : Memory) (w : Working s c []) (h : Holds (record s { running = c }) m) (rest : Stay) (is : rest ≡ resumed s c) where
  abbrev Through : ℕ → Run → Type 0
  Through to e = ThroughTo Nowhere rest most_take_up_steps to e

  -- the context goes on as it is
  as_it_is : resumed_by s c s.next s.frames ≡ record s { running = taken_up c } → (e : Run) → e.bytes ≡ m → ports e.seen ≡ [] → e.steps ≤ 512 → Through WAIT e
  as_it_is same e bytes quiet small =
      let pc : c.context.pc ≡ epc_of c.context = ap (λ b. if b then (c.context.pc + (2 ^ 32 - 4)) % 2 ^ 32 else c.context.pc) (sym w.context.no_slot) in
      ends_at rest most_take_up_steps WAIT e quiet (subst (λ q. Ends 128 q most_take_up_steps WAIT e) (sym (is ∙ ap Return same)) (
        small,
        record {
          state = record s { running = c };
          out = w.context.no_slot;
          is = ap (λ a. record s { running = record c { context = taken c.context a } }) pc;
          holds = subst (Holds (record s { running = c })) (sym bytes) h;
        },
      ))

  -- ---- another thread

  module _ (n : ℕ) (next : s.next ≡ Some n) (none : s.frames ≡ []) where
    abbrev t : KernelState
    t = record s { next = None }

    abbrev ready : Memory
    ready = put_word m 0xEA04 0

    fits : IsNext s (Some n)
    fits = subst (IsNext s) next w.next

    other : UsedAs (thread s n)
    other = used_by (thread s n) fits.1

    ready_holds : Holds (record t { running = c }) ready
    ready_holds = next_forgotten s c w.valid m h

    -- the state is that of a switch
    gives : resumed_by s c s.next s.frames ≡ switched_from t c n
    gives =
        let slot : Thread = keeps c (thread s s.current) in
        (λ i. resumed_by s c (next i) (none i))
        ∙ ap (λ d. record t { threads = slice_set s.threads s.current (keeps d (thread s s.current)); current = n; running = context_of (thread s n) }) (taken_up_as_kept c w.context)
        ∙ ap (λ u. record t { threads = slice_set s.threads s.current slot; current = n; running = context_of u }) (sym (get_or-set_other s.threads s.current n slot Free fits.2))

    done : (kept : Memory) → SlotKept (thread s s.current) ready kept (thread_at s.current) → (filled : Memory) → WordsCopied kept filled (thread_at n + 0xC) 0xEB0C 35
        → (e : Run) → e.bytes ≡ put_word filled 0xEA00 n → ports e.seen ≡ [] → e.steps ≤ 512 → Through WAIT e
    done kept k filled f e bytes quiet small =
        let r = rests t w.valid c w.context ready ready_holds n fits.0 other.context other.is kept k filled f in
        ends_at rest most_take_up_steps WAIT e quiet (subst (λ q. Ends 128 q most_take_up_steps WAIT e) (sym (is ∙ ap Return gives)) (
          small,
          record {
            state = switched_from t c n;
            out = r.no_slot;
            is = ap (with_running (switched_from t c n)) (rest_taken (switched_from t c n).running.context r);
            holds = subst (Holds (switched_from t c n)) (sym bytes) (made t w.valid c w.context ready ready_holds n fits.0 other.context other.is kept k filled f);
          },
        ))

  pub meets : (d : Registers) (z : Cop0) → Meets kernel_words (calls kernel_words (frames_own ++ tested_there)) (tree TAKE_UP_NODES) TAKE_UP (λ _. ⊥) Through (begun d z m)
  meets d z =
      let named_word : word m 0xEA04 ≡ next_word s.next = h.reads.variables.1.0 in
      let frames : word m 0xEA08 ≡ length s.frames = h.reads.variables.1.1.0 in
      let cur : word m 0xEA00 ≡ s.current = h.reads.variables.0 in
      let now : s.current < 16 = omega (arith, w.valid.current, w.valid.threads_most) in
      let at : ℕ = thread_at s.current in
      let mine = slot_halves s.current now in
      let b = at_thread s.current now in
      let block : block_of (word m 0xEA00) ≡ 0x80000000 + at = ap block_of cur ∙ b.block in
      let old = status_is (record s { running = c }) m h s.current w.valid.current in
      start (calls kernel_words (frames_own ++ tested_there)) (fair kernel_words (frames_own ++ tested_there)) (tree TAKE_UP_NODES) TAKE_UP (λ _. ⊥) Through (begun d z m) (
        λ zero. as_it_is (ap (λ o. resumed_by s c o s.frames) (none_named s.next (sym named_word ∙ zero))) _ refl refl (omega arith),
        λ some. (
          λ called. as_it_is (waits_on s c s.next s.frames (λ e. called (frames ∙ e))) _ refl refl (omega arith),
          λ last.
              let o = named s.next (word m 0xEA04) named_word some in
              let n : ℕ = o.number in
              let none = no_frames s.frames (sym frames ∙ last) in
              let few : n < length s.threads = (fits n o.is none).0 in
              let small : n < 16 = omega (arith, few, w.valid.threads_most) in
              let less : (word m 0xEA04 + 0xFFFFFFFF) % 2 ^ 32 ≡ n = omega (arith, o.word, small) in
              let to : ℕ = thread_at n in
              let its = slot_halves n small in
              rw (less, block, b.here, b.sort, b.place) (
                λ used. frames_half.half _ _ _ _ _ _ _ 0xEB0C (at + 0xC) mine.kept (record { r8 = refl; r9 = omega (arith, now) })
                    (λ m1 _ _ _ _ _ _ x1 y1 c1 q1 p1. frames_half.half _ _ _ _ _ _ _ (0xEB0C + 68) (at + 0xC + 68) mine.kept_on (record { r8 = x1; r9 = y1 })
                    (λ m2 _ _ _ _ _ _ x2 y2 c2 q2 p2. frames_half.half _ _ _ _ _ _ _ (to + 0xC) 0xEB0C its.taken (record { r8 = omega (arith, small); r9 = refl })
                    (λ m3 _ _ _ _ _ _ x3 y3 c3 q3 p3. frames_half.half _ _ _ _ _ _ _ (to + 0xC + 68) (0xEB0C + 68) its.taken_on (record { r8 = x3; r9 = y3 })
                    (λ m4 _ _ _ _ _ _ x4 y4 c4 q4 p4.
                    done n o.is none m2 (kept_used (ready n o.is none) m2 at (thread s s.current) (sym old ∙ used) (mine.kept_whole _ _ _ c1 c2))
                    m4 (its.taken_whole _ _ _ c3 c4) _ refl (q4 ∙ q3 ∙ q2 ∙ q1) (omega (arith, p1, p2, p3, p4)))))),
                λ free. frames_half.half _ _ _ _ _ _ _ (to + 0xC) 0xEB0C its.taken (record { r8 = omega (arith, small); r9 = refl })
                    (λ m3 _ _ _ _ _ _ x3 y3 c3 q3 p3. frames_half.half _ _ _ _ _ _ _ (to + 0xC + 68) (0xEB0C + 68) its.taken_on (record { r8 = x3; r9 = y3 })
                    (λ m4 _ _ _ _ _ _ x4 y4 c4 q4 p4.
                    done n o.is none (ready n o.is none) (kept_free (ready n o.is none) at (thread s s.current) (λ e. free (old ∙ e)))
                    m4 (its.taken_whole _ _ _ c3 c4) _ refl (q4 ∙ q3) (omega (arith, p3, p4)))),
              ),
        ),
      )

pub makes : Makes frames_own most_take_up_steps TakesUp Nowhere TAKE_UP (tree TAKE_UP_NODES)
makes rest d z m h = meets h.state h.context m h.working h.holds rest h.is d z
