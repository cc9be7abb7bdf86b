-- ReturnFromException meets its stay.
use Rattle.psx_flow.proofs.Kit.{◌≡◌, ℕ, suc, ◌+◌, ◌-◌, ◌%◌, ◌^◌, ◌<◌, ◌≤◌, ◌⊎◌, inl, inr, [], length, true, refl, sym, ap, ◌∙◌, subst, arith, ⊎_elim, Memory, byte, word, put_word, Registers, Cop0, Run, Meets, calls, kernel_words, fair, start, ◌++◌}
use Rattle.psx_base.specs.KernelState.{ThreadContext, Frame, KernelState}
use Rattle.psx_base.specs.declared.stop.Stop.TheVariants.{BadReturn}
use Rattle.psx_ram.specs.Apart.{apart}
use Rattle.psx_ram.proofs.Laws.{byte-put_word_apart}
use Rattle.psx_flow.specs.Told.{ports}
use Rattle.kern_layout.specs.Fields.{Block}
use Rattle.kern_layout.specs.Contexts.{saved}
use Rattle.kern_layout.specs.Tasks.{TasksAt}
use Rattle.kern_layout.specs.Reads.{frame, frame_at}
use Rattle.kern_layout.proofs.Blocks.{block_same, put_here, put_other}
use Rattle.kern_layout.proofs.MemoryStored.{word_stored}
use Rattle.abs_kernel.specs.declared.calls.CallId.TheVariants.{B17}
use Rattle.abs_kernel.specs.Calls.{call}
use Rattle.abs_kernel.specs.Stay.{Stay, Halt}
use Rattle.abs_kernel.specs.Answered.{registers_of}
use Rattle.abs_kernel.specs.TakingUp.{resumed}
use Rattle.abs_kernel.specs.Returning.{innermost, popped, pops_by, return_from_exception}
use Rattle.kern_stay.specs.Shared.{tree, tested_there}
use Rattle.kern_stay.specs.Copy.{WordsCopied}
use Rattle.kern_stay.specs.CopyHalf.{Halves}
use Rattle.kern_stay.specs.Doors.{Holds, Ends, Arrives, Through, Serves, called_with, begun, most_steps}
use Rattle.kern_stay.specs.declared.places.TheConstants.{WORK, BAD_RETURN}
use Rattle.kern_stay.proofs.CopyingHalf.{KnowsHalf, knows_half, both_copied}
use Rattle.kern_stay.proofs.Ending.{through, works}
use Rattle.kern_stay.proofs.FramesMoved.{Below}
use Rattle.kern_stay.proofs.FramePopped.{no_frames, innermost_is, popped_working, popped_holds, popped_by, frame_there}
use Rattle.kern_stay.proofs.Switching.{context_of_words}
use Rattle.kern_thread.specs.Own.{own}
use Rattle.kern_thread.specs.declared.places.TheConstants.{COPY_HALF, RETURN_FROM_EXCEPTION}
use Rattle.kern_thread.specs.declared.b17_return_from_exception.TheConstants.{NODES}

-- ---- the work area without tasks

abbrev cleared : Memory → Memory
cleared x = put_word (put_word (put_word x 0xEB98 0) 0xEBA8 0) 0xEBAC 0

stored : (m : Memory) (p a : ℕ) → p % 4 ≡ 0 → a % 4 ≡ 0 → (a ≡ p → ⊥) → word (put_word m p 0) a ≡ word m a
stored m p a al am ne = word_stored m p 0 a al am ∙ put_other (word m) p 0 a ne

here : (m : Memory) (p : ℕ) → p % 4 ≡ 0 → word (put_word m p 0) p ≡ 0
here m p al = word_stored m p 0 p al al ∙ put_here (word m) p 0

apart_out : (p a : ℕ) → (a < p) ⊎ (p + 4 ≤ a) → apart p 4 a 1 ≡ true
apart_out p a h = grind arith

cleared_word : (x : Memory) (a : ℕ) → a % 4 ≡ 0 → a < 0xEB98 → word (cleared x) a ≡ word x a
cleared_word x a al up =
    stored (put_word (put_word x 0xEB98 0) 0xEBA8 0) 0xEBAC a refl al (λ e. omega (arith, e, up))
    ∙ stored (put_word x 0xEB98 0) 0xEBA8 a refl al (λ e. omega (arith, e, up))
    ∙ stored x 0xEB98 a refl al (λ e. omega (arith, e, up))

cleared_byte : (x : Memory) (a : ℕ) → (a < 0xEB00) ⊎ (0x10000 ≤ a) → byte (cleared x) a ≡ byte x a
cleared_byte x a o =
    let far : (p : ℕ) → 0xEB00 ≤ p → p < 0xF000 → (a < p) ⊎ (p + 4 ≤ a) = λ p lo up. ⊎_elim (λ l. inl (omega (arith, l, lo))) (λ g. inr (omega (arith, g, up))) o in
    byte-put_word_apart (put_word (put_word x 0xEB98 0) 0xEBA8 0) 0xEBAC 0 a (apart_out 0xEBAC a (far 0xEBAC (omega arith) (omega arith)))
    ∙ byte-put_word_apart (put_word x 0xEB98 0) 0xEBA8 0 a (apart_out 0xEBA8 a (far 0xEBA8 (omega arith) (omega arith)))
    ∙ byte-put_word_apart x 0xEB98 0 a (apart_out 0xEB98 a (far 0xEB98 (omega arith) (omega arith)))

no_tasks : (x : Memory) → TasksAt (word (cleared x)) 0xEB00 []
no_tasks x = record {
  first = (
    stored (put_word (put_word x 0xEB98 0) 0xEBA8 0) 0xEBAC 0xEB98 refl refl (λ e. omega (arith, e))
        ∙ stored (put_word x 0xEB98 0) 0xEBA8 0xEB98 refl refl (λ e. omega (arith, e)) ∙ here x 0xEB98 refl,
    tt,
  );
  counts = (
    stored (put_word (put_word x 0xEB98 0) 0xEBA8 0) 0xEBAC 0xEBA8 refl refl (λ e. omega (arith, e)) ∙ here (put_word x 0xEB98 0) 0xEBA8 refl,
    (here (put_word (put_word x 0xEB98 0) 0xEBA8 0) 0xEBAC refl, tt),
  );
  lines = tt;
  elements = tt;
}

-- ---- the call

module _ (s : KernelState) (m : Memory) (h : Arrives s m) where
  abbrev next : Frame → Stay
  next f = resumed (popped s) f.context

  abbrev stay : Stay
  stay = return_from_exception s

  stray : length s.frames ≡ 0 → (e : Run) → e.bytes ≡ m → ports e.seen ≡ [] → e.steps ≤ 8192 → Through stay most_steps BAD_RETURN e
  stray none e bytes quiet small =
      let is : stay ≡ Halt (BadReturn (registers_of s).r31) s.memory = ap (λ fs. pops_by s next (innermost fs)) (no_frames s.frames none) in
      through stay most_steps BAD_RETURN e quiet (subst (λ q. Ends 128 q most_steps BAD_RETURN e) (sym is)
      (small, record { state = s; is = refl; memory_is = refl; holds = subst (Holds s) (sym bytes) h.holds }))

  module _ (n : ℕ) (count : length s.frames ≡ suc n) where
    abbrev top : ThreadContext
    top = (frame s n).context

    abbrev counted : Memory
    counted = put_word m 0xEA08 n

    done : (x : Memory) → WordsCopied counted x (frame_at n + 0xC) 0xEB0C 35 → (e : Run) → e.bytes ≡ cleared x → ports e.seen ≡ [] → e.steps ≤ 8192 → Through stay most_steps WORK e
    done x copied e bytes quiet small =
        let w = popped_working s h.valid n count in
        let there = frame_there s h.valid n count m h.holds in
        let area : Block (word x) 0xEB00 (saved top) = context_of_words counted x (frame_at n) 0xEB00 top copied there.context in
        let late : Block (word (cleared x)) 0xEB00 (saved top) = block_same (word x) (word (cleared x)) 0xEB00 0 0x98 (saved top) refl refl (λ a al lo up. cleared_word x a al up) area in
        let below : Below counted (cleared x) = record {
          words = λ a al up. cleared_word x a al (omega (arith, up)) ∙ copied.words a al (inl (omega (arith, up)));
          bytes = λ a o. cleared_byte x a o ∙ copied.bytes a (⊎_elim (λ l. inl (omega (arith, l))) (λ g. inr (omega (arith, g))) o);
        } in
        works stay most_steps e quiet (record {
          state = popped s;
          context = top;
          tasks = [];
          is = ap (pops_by s next) (innermost_is s.frames n count);
          working = record { valid = w.valid; next = w.next; context = w.context; tasks = record { order = refl; after_scan = tt; elements = omega arith; lines = omega arith; each = tt } };
          holds = subst (Holds (record (popped s) { running = top })) (sym bytes) (popped_holds s h.valid n count m (cleared x) h.holds (popped_by s h.valid n count m (cleared x) below late));
          there = subst (λ y. TasksAt (word y) 0xEB00 []) (sym bytes) (no_tasks x);
        }) small small

  pub meets : (d : Registers) (z : Cop0)
      → Meets kernel_words (calls kernel_words (own ++ tested_there)) (tree NODES) RETURN_FROM_EXCEPTION (λ _. ⊥) (λ to e. Through stay most_steps to e) (begun (called_with (registers_of s) d) z m)
  meets d z =
      let know : KnowsHalf COPY_HALF (calls kernel_words (own ++ tested_there)) = knows_half COPY_HALF tested_there in
      let frames : word m 0xEA08 ≡ length s.frames = h.holds.reads.variables.1.1.0 in
      start (calls kernel_words (own ++ tested_there)) (fair kernel_words (own ++ tested_there)) (tree NODES) RETURN_FROM_EXCEPTION (λ _. ⊥) (λ to e. Through stay most_steps to e)
      (begun (called_with (registers_of s) d) z m) (
        λ none. stray (sym frames ∙ none) _ refl refl (omega arith),
        λ some.
            let n : ℕ = length s.frames - 1 in
            let count : length s.frames ≡ suc n = omega (arith, some, frames) in
            let few : n < 8 = omega (arith, count, h.valid.frames_most) in
            let less : (word m 0xEA08 + 0xFFFFFFFF) % 2 ^ 32 ≡ n = omega (arith, frames, count, few) in
            let from : ℕ = frame_at n in
            let at : (o : ℕ) → o % 4 ≡ 0 → o < 0x100 → Halves (from + o) (0xEB00 + o) = λ o al less.
            record { even = (omega (arith, al), omega (arith, al)); low = (omega arith, omega arith); high = (omega (arith, few, less), omega (arith, less)); apart = inl (omega (arith, few)) } in
            let on : from + 0x50 ≡ from + 0xC + 68 = omega arith in
            rw (less)
            (know.half _ _ _ _ _ _ _ (from + 0xC) 0xEB0C (at 0xC refl (omega arith)) (record { r8 = omega (arith, few); r9 = refl })
            (λ m1 _ _ _ _ _ _ x1 y1 c1 q1 p1. know.half _ _ _ _ _ _ _ (from + 0xC + 68) 0xEB50 (subst (λ a. Halves a 0xEB50) on (at 0x50 refl (omega arith))) (record { r8 = x1; r9 = y1 })
            (λ m2 _ _ _ _ _ _ x2 y2 c2 q2 p2.
            done n count m2 (both_copied (counted n count) m1 m2 (from + 0xC) 0xEB0C (omega arith, refl) (inl (omega (arith, few))) c1 c2)
            _ refl (q2 ∙ q1) (omega (arith, p1, p2))))),
      )

pub serves : Serves own most_steps (call B17) RETURN_FROM_EXCEPTION (tree NODES)
serves s d z m h = meets s m h d z
