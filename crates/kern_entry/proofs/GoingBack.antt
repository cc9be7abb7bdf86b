-- BACK takes the innermost frame away, and goes on with its tasks.
use Rattle.psx_flow.proofs.Kit.{◌≡◌, ℕ, suc, ◌+◌, ◌-◌, ◌%◌, ◌^◌, ◌<◌, ◌≤◌, inl, [], length, refl, sym, ap, ◌∙◌, subst, arith, Memory, word, put_word, Registers, Cop0, Run, Meets, calls, kernel_words, fair, start, ◌++◌}
use Rattle.psx_base.specs.KernelState.{Frame, KernelState}
use Rattle.psx_base.specs.declared.stop.Stop.TheVariants.{BadReturn}
use Rattle.psx_flow.specs.Told.{ports}
use Rattle.kern_layout.specs.Tasks.{elements_of, TasksAt}
use Rattle.kern_layout.specs.Reads.{frame, frame_at}
use Rattle.abs_kernel.specs.Stay.{Stay, Halt}
use Rattle.abs_kernel.specs.Answered.{registers_of}
use Rattle.abs_kernel.specs.Tasks.{work}
use Rattle.abs_kernel.specs.Returning.{innermost, popped, pops_by, comes_back}
use Rattle.kern_stay.specs.Shared.{tree, tested_there}
use Rattle.kern_stay.specs.Doors.{Holds, Ends, Arrives, Through, Serves, called_with, begun, most_back_steps}
use Rattle.kern_stay.specs.declared.places.TheConstants.{WORK, BAD_RETURN}
use Rattle.kern_stay.proofs.Ending.{through, works}
use Rattle.kern_stay.proofs.FramesMoved.{FrameMoved, three_runs, front_moved, elements_moved, context_moved, tasks_moved, filled_below}
use Rattle.kern_stay.proofs.FramePopped.{no_frames, innermost_is, popped_working, popped_holds, popped_by, frame_there}
use Rattle.kern_entry.specs.declared.places.TheConstants.{BACK}
use Rattle.kern_entry.specs.declared.back.TheConstants.{BACK_NODES}
use Rattle.kern_entry.specs.FramesOwn.{frames_own}
use Rattle.kern_entry.proofs.FrameCalls.{frames_half, frames_copy, from_frame}

module _ (s : KernelState) (m : Memory) (h : Arrives s m) where
  abbrev next : Frame → Stay
  next f = work (popped s) f.context f.tasks (registers_of s).r2 (registers_of s).r31

  -- the values that the area has
  answer : word m 0xEB10 ≡ (registers_of s).r2
  answer = h.holds.area.1.0

  caller : word m 0xEB84 ≡ (registers_of s).r31
  caller = h.holds.area.1.1.1.1.1.1.1.1.1.1.1.1.1.1.1.1.1.1.1.1.1.1.1.1.1.1.1.1.0

  stray : length s.frames ≡ 0 → (e : Run) → e.bytes ≡ m → ports e.seen ≡ [] → e.steps ≤ 1024 → Through (comes_back s) most_back_steps BAD_RETURN e
  stray none e bytes quiet small =
      let is : comes_back s ≡ Halt (BadReturn (registers_of s).r31) s.memory = ap (λ fs. pops_by s next (innermost fs)) (no_frames s.frames none) in
      through (comes_back s) most_back_steps BAD_RETURN e quiet (subst (λ q. Ends 128 q most_back_steps BAD_RETURN e) (sym is)
      (small, record { state = s; is = refl; memory_is = refl; holds = subst (λ x. Holds s x) (sym bytes) h.holds }))

  module _ (n : ℕ) (count : length s.frames ≡ suc n) where
    abbrev top : Frame
    top = frame s n

    abbrev counted : Memory
    counted = put_word m 0xEA08 n

    done : (x : Memory) → FrameMoved counted x (frame_at n) 0xEB00 (length (elements_of top.tasks)) → (e : Run) → e.bytes ≡ x → e.regs.r2 ≡ word m 0xEB10 → e.regs.r31 ≡ word m 0xEB84
        → ports e.seen ≡ [] → e.steps ≤ 1024 → Through (comes_back s) most_back_steps WORK e
    done x moved e bytes r2 r31 quiet small =
        let there = frame_there s h.valid n count m h.holds in
        let area = context_moved counted x (frame_at n) 0xEB00 (length (elements_of top.tasks)) top.context moved there.context in
        let below = filled_below counted x (frame_at n) (length (elements_of top.tasks)) moved in
        let value : e.regs.r2 ≡ (registers_of s).r2 = r2 ∙ answer in
        let ra : e.regs.r31 ≡ (registers_of s).r31 = r31 ∙ caller in
        let w = popped_working s h.valid n count in
        let is : comes_back s ≡ next top = ap (pops_by s next) (innermost_is s.frames n count) in
        works (comes_back s) most_back_steps e quiet (record {
          state = popped s;
          context = top.context;
          tasks = top.tasks;
          is = is ∙ ap (λ v. work (popped s) top.context top.tasks v (registers_of s).r31) (sym value) ∙ ap (work (popped s) top.context top.tasks e.regs.r2) (sym ra);
          working = w;
          holds = subst (Holds (record (popped s) { running = top.context })) (sym bytes) (popped_holds s h.valid n count m x h.holds (popped_by s h.valid n count m x below area));
          there = subst (λ y. TasksAt (word y) 0xEB00 top.tasks) (sym bytes) (tasks_moved counted x (frame_at n) 0xEB00 top.tasks moved w.tasks.lines there.tasks);
        }) small (omega (arith, small))

  pub meets : (d : Registers) (z : Cop0)
      → Meets kernel_words (calls kernel_words (frames_own ++ tested_there)) (tree BACK_NODES) BACK (λ _. ⊥) (λ to e. Through (comes_back s) most_back_steps to e) (begun (called_with (registers_of s) d) z m)
  meets d z =
      let frames : word m 0xEA08 ≡ length s.frames = h.holds.reads.variables.1.1.0 in
      start (calls kernel_words (frames_own ++ tested_there)) (fair kernel_words (frames_own ++ tested_there)) (tree BACK_NODES) BACK (λ _. ⊥) (λ to e. Through (comes_back s) most_back_steps to e)
      (begun (called_with (registers_of s) d) z m) (
        λ none. stray (sym frames ∙ none) _ refl refl (omega arith),
        λ some.
            let n : ℕ = length s.frames - 1 in
            let count : length s.frames ≡ suc n = omega (arith, some, frames) in
            let few : n < 8 = omega (arith, count, h.valid.frames_most) in
            let less : (word m 0xEA08 + 0xFFFFFFFF) % 2 ^ 32 ≡ n = omega (arith, frames, count, few) in
            let w = popped_working s h.valid n count in
            let from : ℕ = frame_at n in
            let k : ℕ = length (elements_of (top n count).tasks) in
            let b = from_frame n few in
            let runs = three_runs from 0xEB00 b in
            rw (less)
            (frames_half.half _ _ _ _ _ _ _ (from + 0xC) 0xEB0C runs.first (record { r8 = omega (arith, few); r9 = refl })
            (λ m1 _ _ _ _ _ _ x1 y1 c1 q1 p1. frames_half.half _ _ _ _ _ _ _ (from + 0x50) 0xEB50 runs.second (record { r8 = omega (arith, x1); r9 = y1 })
            (λ m2 _ _ _ _ _ _ x2 y2 c2 q2 p2. frames_half.half _ _ _ _ _ _ _ (from + 0x94) 0xEB94 runs.third (record { r8 = omega (arith, x2); r9 = y2 })
            (λ m3 _ _ _ _ _ _ x3 y3 c3 q3 p3.
            let front : FrameMoved (counted n count) m3 from 0xEB00 0 = front_moved (counted n count) m1 m2 m3 from 0xEB00 b c1 c2 c3 in
            let left : word m3 0xEBA8 ≡ k = front.front 0xA8 refl (omega arith) (omega arith) ∙ (frame_there s h.valid n count m h.holds).tasks.counts.0 in (
              λ some. frames_copy.copy _ _ _ _ _ _ _ (from + 0x100) 0xEC00 k
                  (record {
                    r8 = omega (arith, few);
                    r9 = refl;
                    r10 = omega (arith, left, few, w.tasks.elements);
                    even = (omega arith, refl);
                    low = (omega arith, omega arith);
                    high = (omega (arith, few, w.tasks.elements), omega (arith, w.tasks.elements));
                    apart = inl (omega (arith, few, w.tasks.elements));
                  })
                  (λ m4 _ _ _ _ _ c4 q4 p4.
                  done n count m4 (elements_moved (counted n count) m3 m4 from 0xEB00 k b w.tasks.elements front c4) _ refl refl refl (q4 ∙ q3 ∙ q2 ∙ q1) (omega (arith, p1, p2, p3, p4, w.tasks.elements))),
              λ none. done n count m3 (subst (λ j. FrameMoved (counted n count) m3 from 0xEB00 j) (sym none ∙ left) front) _ refl refl refl (q3 ∙ q2 ∙ q1) (omega (arith, p1, p2, p3)),
            ))))),
      )

pub serves : Serves frames_own most_back_steps comes_back BACK (tree BACK_NODES)
serves s d z m h = meets s m h d z
