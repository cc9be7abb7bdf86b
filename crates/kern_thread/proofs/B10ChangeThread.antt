-- ChangeThread meets its stay.
use Rattle.psx_flow.proofs.Kit.{◌≡◌, ℕ, suc, ◌+◌, ◌%◌, ◌^◌, ◌<◌, ◌≤◌, [], refl, sym, ap, ◌∙◌, subst, arith, Memory, word, put_word, Run, Meets, calls, kernel_words, fair, start, ◌++◌, true, false}
use Rattle.std.proofs.Common.{length, List, ◌∷◌, ne_eqb, eq-eqb}
use Rattle.std.proofs.lemmas.List.{get_or_past}
use Rattle.std.specs.Prelude.{Bool, Some, None, nat_eq, if◌then◌else◌}
use Rattle.psx_base.specs.Registers.{Registers}
use Rattle.psx_base.specs.KernelState.{ThreadContext, Thread, Free, Used, Frame, KernelState}
use Rattle.psx_cpu.specs.Processor.{Cop0}
use Rattle.psx_flow.specs.Told.{ports}
use Rattle.kern_layout.specs.Reads.{thread, thread_at, next_word}
use Rattle.abs_kernel.specs.Stay.{Stay, Return}
use Rattle.abs_kernel.specs.Answered.{registers_of, with_running, answered}
use Rattle.abs_kernel.specs.Switching.{caller, switched}
use Rattle.abs_kernel.specs.Threads.{number_of, is_used, bad_thread}
use Rattle.abs_kernel.specs.ChangeThread.{with_next, changes_to, change_thread}
use Rattle.abs_kernel.specs.declared.calls.CallId.TheVariants.{B10}
use Rattle.abs_kernel.specs.Calls.{call}
use Rattle.abs_kernel.proofs.Threaded.{ThreadsFit}
use Rattle.abs_kernel.proofs.EndsThreads.{next_fits}
use Rattle.kern_stay.specs.Shared.{tree, tested_there}
use Rattle.kern_stay.specs.Copy.{WordsCopied}
use Rattle.kern_stay.specs.Switch.{settle_area, SlotKept}
use Rattle.kern_stay.specs.Doors.{Holds, Ends, Arrives, Through, Serves, called_with, begun, most_steps}
use Rattle.kern_stay.proofs.CopyingHalf.{KnowsHalf, knows_half}
use Rattle.kern_stay.proofs.Switching.{made, rests, rest_taken, caller_rests, settled_holds}
use Rattle.kern_stay.proofs.Ending.{through, answers, refuses_thread}
use Rattle.kern_stay.proofs.RoomGiven.{true_then, false_then}
use Rattle.kern_stay.specs.declared.places.TheConstants.{WAIT}
use Rattle.kern_thread.specs.Own.{own}
use Rattle.kern_thread.specs.declared.places.TheConstants.{CHANGE_THREAD, COPY_HALF}
use Rattle.kern_thread.specs.declared.b10_change_thread.TheConstants.{NODES}
use Rattle.kern_stay.proofs.FramePopped.{no_frames}
use Rattle.kern_stay.proofs.Slots.{block_of, at_thread, status_of, status_is, used_as, kept_used, kept_free, slot_halves}
use Rattle.kern_thread.proofs.ThreadsHeld.{holds_next}

free_is : (t : Thread) → (status_of t ≡ 0x4000 → ⊥) → is_used t ≡ false
free_is Free ne = refl
free_is (Used u) ne = absurd (ne refl)

module _ (s : KernelState) (m : Memory) (h : Arrives s m) (n : ℕ) (number : number_of (registers_of s).r4 ≡ n) where
  -- the stay, by what the slot is
  abbrev by_slot : Bool → Stay
  by_slot b = if b then changes_to s n s.frames else bad_thread s

  abbrev stay : Stay
  stay = by_slot (is_used (thread s n))

  stay_by : (b : Bool) → is_used (thread s n) ≡ b → stay ≡ by_slot b
  stay_by b e = ap by_slot e

  abbrev ready : Memory
  ready = settle_area m 1 (registers_of s).r31

  module _ (few : n < length s.threads) (other : ThreadContext) (used : thread s n ≡ Used other) where
    done : s.frames ≡ [] → (kept : Memory) → SlotKept (thread s s.current) ready kept (thread_at s.current)
        → (filled : Memory) → WordsCopied kept filled (thread_at n + 0xC) 0xEB0C 35 → (e : Run) → e.bytes ≡ put_word filled 0xEA00 n → ports e.seen ≡ [] → e.steps ≤ 8192
        → Through stay most_steps WAIT e
    done none kept k filled f e bytes quiet small =
        let at_rest = caller_rests s in
        let ready_holds = settled_holds s h.valid m h.holds in
        let r = rests s h.valid (caller s) at_rest ready ready_holds n few other used kept k filled f in
        let is : stay ≡ Return (switched s n) = stay_by true (ap is_used used) ∙ ap (changes_to s n) none in
        through stay most_steps WAIT e quiet (subst (λ x. Ends 128 x most_steps WAIT e) (sym is) (
          small,
          record {
            state = switched s n;
            out = r.no_slot;
            is = ap (with_running (switched s n)) (rest_taken (switched s n).running.context r);
            holds = subst (Holds (switched s n)) (sym bytes) (made s h.valid (caller s) at_rest ready ready_holds n few other used kept k filled f);
          },
        ))

    -- in a callback
    later_is : (fs : List Frame) → (length fs ≡ 0 → ⊥) → changes_to s n fs ≡ answered (with_next s n) 1
    later_is [] ne = absurd (ne refl)
    later_is (f ∷ fs) ne = refl

    fits : (fs : List Frame) → s.frames ≡ fs → (length fs ≡ 0 → ⊥) → ThreadsFit s s.threads s.current (with_next s n).next
    fits [] e ne = absurd (ne refl)
    fits (f ∷ fs) e ne = next_fits s n f fs e (ap is_used used) h.valid

    kept : (length s.frames ≡ 0 → ⊥) → (v : ℕ) → v ≡ next_word (with_next s n).next → Holds (with_next s n) (put_word m 0xEA04 v)
    kept ne v e = holds_next s h.valid m h.holds (with_next s n).next (fits s.frames refl ne) v e

    later : (length s.frames ≡ 0 → ⊥) → stay ≡ answered (with_next s n) 1
    later ne = stay_by true (ap is_used used) ∙ later_is s.frames ne

    next_is : (b : Bool) → nat_eq n s.current ≡ b → next_word (with_next s n).next ≡ next_word (if b then None else Some n)
    next_is b e = ap (λ c. next_word (if c then None else Some n)) e

  pub meets : (d : Registers) (z : Cop0) → Meets kernel_words (calls kernel_words (own ++ tested_there)) (tree NODES) CHANGE_THREAD (λ _. ⊥)
      (λ to e. Through (change_thread s) most_steps to e) (begun (called_with (registers_of s) d) z m)
  meets d z =
      let know : KnowsHalf COPY_HALF (calls kernel_words (own ++ tested_there)) = knows_half COPY_HALF tested_there in
      let valid = h.valid in
      let cur : word m 0xEA00 ≡ s.current = h.holds.reads.variables.0 in
      let frames : word m 0xEA08 ≡ length s.frames = h.holds.reads.variables.1.1.0 in
      let count : word m 0xEA0C ≡ length s.threads = h.holds.reads.variables.1.1.1.0 in
      let now : s.current < 16 = omega (arith, valid.current, valid.threads_most) in
      let b = at_thread s.current now in
      let mine = slot_halves s.current now in
      let at : ℕ = thread_at s.current in
      let to : ℕ = thread_at n in
      let block : block_of (word m 0xEA00) ≡ 0x80000000 + at = ap block_of cur ∙ b.block in
      let old = status_is s m h.holds s.current valid.current in
      let r31 : word m 0xEB84 ≡ (registers_of s).r31 = h.holds.area.1.1.1.1.1.1.1.1.1.1.1.1.1.1.1.1.1.1.1.1.1.1.1.1.1.1.1.1.0 in
      let settled : settle_area m 1 (word m 0xEB84) ≡ ready = ap (settle_area m 1) r31 in
      start (calls kernel_words (own ++ tested_there)) (fair kernel_words (own ++ tested_there)) (tree NODES) CHANGE_THREAD (λ _. ⊥)
      (λ to e. Through (change_thread s) most_steps to e) (begun (called_with (registers_of s) d) z m)
      (rw (number) (
        λ some.
            let lt = true_then n (word m 0xEA0C) some in
            let few : n < length s.threads = omega (arith, lt, count) in
            let small : n < 16 = omega (arith, few, valid.threads_most) in
            let a = at_thread n small in
            let its = slot_halves n small in
            let status = status_is s m h.holds n few in
            let more : (n + 1) % 2 ^ 32 ≡ suc n = omega (arith, small) in
            rw (a.block, a.here, a.sort, a.place) (
              λ is.
                  let u = used_as (thread s n) (sym status ∙ is) in (
                    λ called.
                        let ne : length s.frames ≡ 0 → ⊥ = λ q. called (frames ∙ q) in (
                          λ same. through stay most_steps _ _ refl (answers most_steps (with_next s n) _ stay (later few u.context u.is ne)
                              (kept few u.context u.is ne 0 (sym (next_is few u.context u.is true (eq-eqb n s.current (sym same ∙ cur))))) (omega arith)),
                          λ other. through stay most_steps _ _ refl (answers most_steps (with_next s n) _ stay (later few u.context u.is ne)
                              (kept few u.context u.is ne _ (more ∙ sym (next_is few u.context u.is false (ne_eqb n s.current (λ e. other (cur ∙ sym e)))))) (omega arith)),
                        ),
                    λ none.
                        let nf = no_frames s.frames (sym frames ∙ none) in
                        rw (block, b.here, b.sort, b.place) (
                          λ used. know.half _ _ _ _ _ _ _ 0xEB0C (at + 0xC) mine.kept (record { r8 = refl; r9 = omega (arith, now) })
                              (λ _ _ _ _ _ _ _ x1 y1 c1 q1 p1. know.half _ _ _ _ _ _ _ (0xEB0C + 68) (at + 0xC + 68) mine.kept_on (record { r8 = x1; r9 = y1 })
                              (λ first _ _ _ _ _ _ x2 y2 c2 q2 p2. know.half _ _ _ _ _ _ _ (to + 0xC) 0xEB0C its.taken (record { r8 = omega (arith, small); r9 = refl })
                              (λ _ _ _ _ _ _ _ x3 y3 c3 q3 p3. know.half _ _ _ _ _ _ _ (to + 0xC + 68) (0xEB0C + 68) its.taken_on (record { r8 = x3; r9 = y3 })
                              (λ filled _ _ _ _ _ _ x4 y4 c4 q4 p4.
                              done few u.context u.is nf first (kept_used ready first at (thread s s.current) (sym old ∙ used)
                              (subst (λ y. WordsCopied y first 0xEB0C (at + 0xC) 35) settled (mine.kept_whole _ _ _ c1 c2))) filled (its.taken_whole _ _ _ c3 c4) _ refl (q4 ∙ q3 ∙ q2 ∙ q1) (omega (arith, p1, p2, p3, p4)))))),
                          λ free. know.half _ _ _ _ _ _ _ (to + 0xC) 0xEB0C its.taken (record { r8 = omega (arith, small); r9 = refl })
                              (λ _ _ _ _ _ _ _ x3 y3 c3 q3 p3. know.half _ _ _ _ _ _ _ (to + 0xC + 68) (0xEB0C + 68) its.taken_on (record { r8 = x3; r9 = y3 })
                              (λ filled _ _ _ _ _ _ x4 y4 c4 q4 p4.
                              done few u.context u.is nf ready (kept_free ready at (thread s s.current) (λ e. free (old ∙ e))) filled
                              (subst (λ y. WordsCopied y filled (to + 0xC) 0xEB0C 35) settled (its.taken_whole _ _ _ c3 c4)) _ refl (q4 ∙ q3) (omega (arith, p3, p4)))),
                        ),
                  ),
              λ free. through stay most_steps _ _ refl (refuses_thread most_steps s _ stay (stay_by false (free_is (thread s n) (λ e. free (status ∙ e)))) h.holds (omega arith)),
            ),
        λ none.
            let ge = false_then n (word m 0xEA0C) none in
            let past : thread s n ≡ Free = get_or_past s.threads n Free (omega (arith, ge, count)) in
            through stay most_steps _ _ refl (refuses_thread most_steps s _ stay (stay_by false (ap is_used past)) h.holds (omega arith)),
      ))

pub serves : Serves own most_steps (call B10) CHANGE_THREAD (tree NODES)
serves s d z m h = meets s m h (number_of (registers_of s).r4) refl d z
