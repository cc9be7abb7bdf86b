-- PUSH keeps a frame, and the function begins.
use Rattle.psx_flow.proofs.Kit.{◌≡◌, ℕ, suc, ◌+◌, ◌*◌, ◌%◌, ◌^◌, ◌<◌, ◌≤◌, inl, inr, [], ◌∷◌, length, true, false, refl, sym, ap, ◌∙◌, subst, arith, ⊎_elim, Memory, put_word, Registers, Cop0, Run, Meets, calls, kernel_words, fair, start, ◌++◌, Entry, applied}
use Rattle.std.proofs.Common.{Bool, List, ◌/◌}
use Rattle.std.specs.Prelude.{nat_lt, if◌then◌else◌}
use Rattle.std.proofs.lemmas.Bool.{lt-ltb}
use Rattle.psx_base.specs.Memory.{word}
use Rattle.psx_base.specs.KernelState.{ThreadContext, Task, KernelState}
use Rattle.psx_base.specs.declared.stop.Stop.TheVariants.{Deep}
use Rattle.psx_flow.specs.Told.{ports}
use Rattle.kern_layout.specs.Fields.{Fields, Block}
use Rattle.kern_layout.specs.Contexts.{saved}
use Rattle.kern_layout.specs.Tasks.{elements_of, TasksAt}
use Rattle.kern_layout.specs.Reads.{frame_at}
use Rattle.kern_layout.specs.Stands.{SameUser}
use Rattle.abs_kernel.specs.Stay.{Stay, Return, Halt}
use Rattle.abs_kernel.specs.Callback.{stack_below, callback, pushed, calls_back}
use Rattle.abs_kernel.specs.WorkLaws.{Working}
use Rattle.kern_layout.proofs.Blocks.{put_other}
use Rattle.kern_layout.proofs.MemoryStored.{word_stored}
use Rattle.kern_stay.specs.Shared.{tree, tested_there}
use Rattle.kern_stay.specs.Doors.{Holds, Ends, ThroughTo, Nowhere, CallsBack, Makes, begun, most_push_steps}
use Rattle.kern_stay.specs.declared.places.TheConstants.{WAIT, DEEP, PUSH}
use Rattle.kern_stay.specs.Copy.{WordsCopied}
use Rattle.kern_stay.proofs.FramesMoved.{FrameMoved, Below, three_runs, front_moved, elements_moved}
use Rattle.kern_stay.proofs.FramePushed.{pushed_reads, pushed_user}
use Rattle.kern_entry.specs.declared.push.TheConstants.{PUSH_NODES}
use Rattle.kern_entry.specs.FramesOwn.{frames_own}
use Rattle.kern_entry.specs.Made.{Spared}
use Rattle.kern_entry.proofs.FrameCalls.{frames_half, frames_copy, to_frame, ends_at}
use Rattle.kern_entry.proofs.WorkArea.{applied_spared, area_after, stored}

-- ---- the function's context, as it is stored

-- the stack, as it is computed
abbrev stack_of : ℕ → ℕ
stack_of sp = (sp + 0xFFFFFFE0) % 2 ^ 32 / 2 ^ 3 * 2 ^ 3 % 2 ^ 32

stack_is : (sp : ℕ) → stack_of sp ≡ stack_below sp
stack_is sp = omega arith

abbrev begins : (function argument sp : ℕ) → Fields
begins f a sp =
    (0xC, 0) ∷ (0x10, 0) ∷ (0x14, 0) ∷ (0x18, a) ∷ (0x1C, 0) ∷ (0x20, 0) ∷ (0x24, 0) ∷ (0x28, 0) ∷ (0x2C, 0) ∷ (0x30, 0) ∷ (0x34, 0) ∷ (0x38, 0) ∷ (0x3C, 0) ∷ (0x40, 0) ∷ (0x44, 0) ∷ (0x48, 0)
    ∷ (0x4C, 0) ∷ (0x50, 0) ∷ (0x54, 0) ∷ (0x58, 0) ∷ (0x5C, 0) ∷ (0x60, 0) ∷ (0x64, 0) ∷ (0x68, 0) ∷ (0x6C, 0) ∷ (0x7C, stack_of sp) ∷ (0x80, 0) ∷ (0x84, 0xE0) ∷ (0x88, f) ∷ (0x8C, 0) ∷ (0x90, 0)
    ∷ (0x94, 0x400) ∷ []

abbrev log : (function argument sp : ℕ) → List Entry
log f a sp = stored (begins f a sp) []

spared_below : (m n : Memory) → Spared m n → Below m n
unfolding word
spared_below m n h = record {
  words = λ a al up.
      let e0 = h a (inl up) in let e1 = h (a + 1) (inl (omega (arith, al, up))) in let e2 = h (a + 2) (inl (omega (arith, al, up))) in let e3 = h (a + 3) (inl (omega (arith, al, up))) in
      λ i. e0 i + e1 i * 2 ^ 8 + e2 i * 2 ^ 16 + e3 i * 2 ^ 24;
  bytes = λ a o. h a (⊎_elim (λ l. inl l) (λ g. inr (omega (arith, g))) o);
}

area_begins : (x : Memory) (c : ThreadContext) (f a : ℕ) → word x 0xEB78 ≡ c.context.regs.r28 → Block (word (applied x (log f a c.context.regs.r29))) 0xEB00 (saved (callback c.context f a))
area_begins x c f a gp =
    let sp = stack_is c.context.regs.r29 in
    area_after x (log f a c.context.regs.r29) 0xEB00 (saved (callback c.context f a)) refl refl (refl, (refl, (refl, (refl, (refl, (refl, (refl, (refl, (refl, (refl, (refl, (refl, (refl, (refl, (refl, (refl, (refl, (refl, (refl, (refl, (refl, (refl, (refl, (refl, (refl, (gp, (sp, (refl, (refl, (refl, (refl, (refl, (refl, tt)))))))))))))))))))))))))))))))))

module _ (s : KernelState) (c : ThreadContext) (ts : List Task) (d : Registers) (z : Cop0) (m : Memory) (w : Working s c ts) (h : Holds (record s { running = c }) m)
    (there : TasksAt (word m) 0xEB00 ts) (rest : Stay) (is : rest ≡ calls_back s c ts d.r16 d.r17 d.r18) (n : ℕ) (count : length s.frames ≡ n) where
  -- the stay, by whether there is room
  abbrev by_room : Bool → Stay
  by_room b = if b then Return (record (pushed s (record { context = c; tasks = ts })) { running = callback c.context d.r16 d.r17 }) else Halt (Deep d.r18) s.memory

  rest_by : (b : Bool) → nat_lt n 8 ≡ b → rest ≡ by_room b
  rest_by b e = is ∙ ap by_room (ap (λ k. nat_lt k 8) count ∙ e)

  abbrev Through : ℕ → Run → Type 0
  Through to e = ThroughTo Nowhere rest most_push_steps to e

  module _ (few : n < 8) where
    abbrev counted : Memory
    counted = put_word m 0xEA08 (suc n)

    done : (x : Memory) → FrameMoved counted x 0xEB00 (frame_at n) (length (elements_of ts)) → (e : Run)
        → e.bytes ≡ applied x (log d.r16 d.r17 (word x 0xEB7C)) → ports e.seen ≡ [] → e.steps ≤ most_push_steps → Through WAIT e
    done x moved e bytes quiet small =
        let spared = spared_below x (applied x (log d.r16 d.r17 (word x 0xEB7C))) (applied_spared x (log d.r16 d.r17 (word x 0xEB7C)) refl) in
        let kept : (a : ℕ) → a % 4 ≡ 0 → 0xEB00 ≤ a → word x a ≡ word m a
        = λ a al lo. moved.words a al (inr (omega (arith, lo, few))) ∙ word_stored m 0xEA08 (suc n) a refl al ∙ put_other (word m) 0xEA08 (suc n) a (λ e. omega (arith, e, lo)) in
        let sp : word x 0xEB7C ≡ c.context.regs.r29 = kept 0xEB7C refl (omega arith) ∙ h.area.1.1.1.1.1.1.1.1.1.1.1.1.1.1.1.1.1.1.1.1.1.1.1.1.1.1.0 in
        let gp : word x 0xEB78 ≡ c.context.regs.r28 = kept 0xEB78 refl (omega arith) ∙ h.area.1.1.1.1.1.1.1.1.1.1.1.1.1.1.1.1.1.1.1.1.1.1.1.1.1.0 in
        let y : Memory = applied x (log d.r16 d.r17 (word x 0xEB7C)) in
        let r = pushed_reads s c ts w m h there n count few x y moved spared in
        let area : Block (word y) 0xEB00 (saved (callback c.context d.r16 d.r17))
        = subst (λ v. Block (word (applied x (log d.r16 d.r17 v))) 0xEB00 (saved (callback c.context d.r16 d.r17))) (sym sp) (area_begins x c d.r16 d.r17 gp) in
        ends_at rest most_push_steps WAIT e quiet (subst (λ q. Ends 128 q most_push_steps WAIT e) (sym (rest_by true (lt-ltb n 8 few))) (
          small,
          record {
            state = record (pushed s (record { context = c; tasks = ts })) { running = callback c.context d.r16 d.r17 };
            out = refl;
            is = refl;
            holds = subst (Holds (record (pushed s (record { context = c; tasks = ts })) { running = callback c.context d.r16 d.r17 })) (sym bytes) (record {
              settled = refl;
              area = area;
              reads = record { threads = r.threads; events = r.events; frames = r.frames; chains = r.chains; heap = r.heap; files = r.files; line = r.line; variables = r.variables };
              user = pushed_user s c ts w m h there n count few x y moved spared;
            });
          },
        ))

  deep : n ≡ 8 → (e : Run) → e.regs.r31 ≡ d.r18 → e.bytes ≡ m → ports e.seen ≡ [] → e.steps ≤ most_push_steps → Through DEEP e
  deep full e ra bytes quiet small =
      ends_at rest most_push_steps DEEP e quiet (subst (λ q. Ends 128 q most_push_steps DEEP e) (sym (rest_by false (ap (λ k. nat_lt k 8) full)))
      (small, record { is = ap Deep (sym ra); user = subst (λ x. SameUser x s.memory) (sym bytes) h.user }))

  pub meets : word m 0xEA08 ≡ n → word m 0xEBA8 ≡ length (elements_of ts) → Meets kernel_words (calls kernel_words (frames_own ++ tested_there)) (tree PUSH_NODES) PUSH (λ _. ⊥) Through (begun d z m)
  meets frames elements =
      start (calls kernel_words (frames_own ++ tested_there)) (fair kernel_words (frames_own ++ tested_there)) (tree PUSH_NODES) PUSH (λ _. ⊥) Through (begun d z m)
      (rw (frames) (
        λ full. deep full _ refl refl refl (omega arith),
        λ other.
            let few : n < 8 = omega (arith, other, count, w.valid.frames_most) in
            let more : (n + 1) % 2 ^ 32 ≡ suc n = omega (arith, few) in
            let to : ℕ = frame_at n in
            let k : ℕ = length (elements_of ts) in
            let b = to_frame n few in
            let runs = three_runs 0xEB00 to b in
            frames_half.half _ _ _ _ _ _ _ 0xEB0C (to + 0xC) runs.first (record { r8 = refl; r9 = omega (arith, few) })
            (λ m1 _ _ _ _ _ _ x1 y1 c1 q1 p1. frames_half.half _ _ _ _ _ _ _ 0xEB50 (to + 0x50) runs.second (record { r8 = x1; r9 = omega (arith, y1) })
            (λ m2 _ _ _ _ _ _ x2 y2 c2 q2 p2. frames_half.half _ _ _ _ _ _ _ 0xEB94 (to + 0x94) runs.third (record { r8 = x2; r9 = omega (arith, y2) })
            (λ m3 _ _ _ _ _ _ x3 y3 c3 q3 p3.
            let first : WordsCopied (counted few) m1 0xEB0C (to + 0xC) 18 = subst (λ v. WordsCopied (put_word m 0xEA08 v) m1 0xEB0C (to + 0xC) 18) more c1 in
            let front : FrameMoved (counted few) m3 0xEB00 to 0 = front_moved (counted few) m1 m2 m3 0xEB00 to b first c2 c3 in
            let left : word m3 0xEBA8 ≡ k = front.words 0xEBA8 refl (inr (omega (arith, few)))
            ∙ word_stored m 0xEA08 (suc n) 0xEBA8 refl refl ∙ put_other (word m) 0xEA08 (suc n) 0xEBA8 (λ e. omega (arith, e)) ∙ elements in (
              λ some. frames_copy.copy _ _ _ _ _ _ _ 0xEC00 (to + 0x100) k
                  (record {
                    r8 = refl;
                    r9 = omega (arith, few);
                    r10 = omega (arith, left, w.tasks.elements);
                    even = (refl, omega arith);
                    low = (omega arith, omega arith);
                    high = (omega (arith, w.tasks.elements), omega (arith, few, w.tasks.elements));
                    apart = inr (omega (arith, few, w.tasks.elements));
                  })
                  (λ m4 _ _ _ _ _ c4 q4 p4.
                  done few m4 (elements_moved (counted few) m3 m4 0xEB00 to k b w.tasks.elements front c4) _ refl (q4 ∙ q3 ∙ q2 ∙ q1) (omega (arith, p1, p2, p3, p4, w.tasks.elements))),
              λ none. done few m3 (subst (λ j. FrameMoved (counted few) m3 0xEB00 to j) (sym none ∙ left) front) _ refl (q3 ∙ q2 ∙ q1) (omega (arith, p1, p2, p3)),
            )))),
      ))

pub makes : Makes frames_own most_push_steps CallsBack Nowhere PUSH (tree PUSH_NODES)
makes rest d z m h = meets h.state h.context h.tasks d z m h.working h.holds h.there rest h.is (length h.state.frames) refl h.holds.reads.variables.1.1.0 h.there.counts.0
