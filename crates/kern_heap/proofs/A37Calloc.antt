-- calloc meets its stay.
use Rattle.psx_flow.proofs.Kit.{◌≡◌, ℕ, suc, ◌+◌, ◌-◌, ◌*◌, ◌%◌, ◌^◌, ◌<◌, ◌≤◌, [], false, true, refl, sym, ap, ◌∙◌, subst, arith, ⊎_elim, Memory, put_byte, Run, Goal, place, start}
use Rattle.std.proofs.Common.{zero, ◌/◌}
use Rattle.std.specs.Prelude.{nat_le, if◌then◌else◌}
use Rattle.std.proofs.lemmas.Bool.{le-leb, cases_lt}
use Rattle.psx_base.specs.KernelState.{KernelState}
use Rattle.psx_flow.specs.Told.{ports}
use Rattle.kern_layout.specs.Valid.{Valid}
use Rattle.abs_kernel.proofs.Moved.{valid_moved}
use Rattle.abs_kernel.proofs.Heaped.{valid_heaped}
use Rattle.abs_kernel.proofs.HeapKept.{allocates_fits}
use Rattle.abs_kernel.specs.Stay.{Stay}
use Rattle.abs_kernel.specs.Answered.{registers_of, answered}
use Rattle.abs_kernel.specs.UserBytes.{writes_byte, following}
use Rattle.abs_kernel.specs.Memset.{fill}
use Rattle.abs_kernel.specs.Heap.{rounded, allocates, with_blocks}
use Rattle.abs_kernel.specs.Calloc.{clears, calloc}
use Rattle.kern_stay.specs.Shared.{tree}
use Rattle.kern_stay.specs.Doors.{Holds, Through, Serves, called_with, begun, most_heap_steps}
use Rattle.kern_stay.proofs.RoomLeft.{Span}
use Rattle.kern_stay.proofs.Holding.{holds_byte}
use Rattle.kern_stay.proofs.Ending.{through, answers, Left, left_all, left_is, left_written}
use Rattle.kern_stay.proofs.Looping.{starting, Turning, FromLoop, looped, leaves}
use Rattle.kern_stay.proofs.Cursor.{Cursor, coming, done_all}
use Rattle.kern_heap.specs.Own.{own}
use Rattle.kern_heap.specs.declared.places.TheConstants.{CALLOC}
use Rattle.kern_heap.specs.declared.a37_calloc.TheConstants.{NODES}
use Rattle.kern_heap.proofs.HeapHeld.{UserBlock, given_block, not_null, block_span}
use Rattle.kern_heap.proofs.Allotting.{Came, NotGiven, IsGiven, came_by}
use Rattle.kern_heap.proofs.OwnCalls.{C, fair_own, allotting}

-- the state with its memory so far
abbrev now : KernelState → Memory → KernelState
now s u = record s { memory = u }

-- what follows the zeros
abbrev done : ℕ → KernelState → Stay
done d t = answered t d

clear_more : (k : ℕ) (s : KernelState) (at d : ℕ) → 0 < k → fill k s at 0 (done d) ≡ writes_byte s at 0 (λ t. fill (k - 1) t (following at) 0 (done d))
clear_more zero s at d h = absurd (omega arith)
clear_more (suc k) s at d h = let e : suc k - 1 ≡ k = omega arith in ap (λ n. writes_byte s at 0 (λ t. fill n t (following at) 0 (done d))) (sym e)

clear_none : (k : ℕ) (s : KernelState) (at d : ℕ) → k ≡ 0 → fill k s at 0 (done d) ≡ answered s d
clear_none k s at d e = ap (λ n. fill n s at 0 (done d)) e

-- at the loop's head, with k bytes to come
record Head (stay : Stay) (s : KernelState) (a n stop k : ℕ) (e : Run) : Type 0 where
  memory : Memory
  holds : Holds (now s memory) e.bytes
  most : ℕ
  left : Left most_heap_steps stay (fill k (now s memory) e.regs.r8 0 (done a)) most
  within : e.steps + 20 ≤ most
  quiet : ports e.seen ≡ []
  r2 : e.regs.r2 ≡ a
  r11 : e.regs.r11 ≡ stop
  cursor : Cursor a n stop k e.regs.r8

module _ (stay : Stay) (s : KernelState) (valid : Valid s) (a n stop : ℕ) (span : Span a n stop 0) where
  abbrev G : ℕ → Goal
  G to e = Through stay most_heap_steps to e

  abbrev Inv : ℕ → Goal
  Inv k e = Head stay s a n stop k e

  turn : (k : ℕ) (e : Run) → Inv k e → Turning C (tree NODES) G Inv k e
  turn k e h =
      let x : ℕ = e.regs.r8 in
      let t : KernelState = now s h.memory in
      let few = h.within in
      record {
        leave = λ eq.
            let l = left_is stay _ _ h.most (clear_none k t x a (done_all a n stop 0 k x span h.cursor (eq ∙ h.r11) refl)) h.left in
            leaves stay (answered t a) h.most t _ l h.quiet (ap (answered t) (sym h.r2)) h.holds (omega (arith, few));
        again = λ ne.
            let g = coming a n stop 0 k x span h.cursor (λ q. ne (q ∙ sym h.r11)) in
            let l = left_written stay t x 0 (λ y. fill (k - 1) y (following x) 0 (done a)) h.most g.user (left_is stay _ _ h.most (clear_more k t x a g.some) h.left) in
            let kept : Valid t = valid_moved s h.memory s.random s.running valid valid.running in
            rw (g.here, g.sort) (
              k - 1,
              g.less,
              record {
                memory = put_byte h.memory (place x) 0;
                holds = holds_byte t kept e.bytes h.holds x 0 g.user;
                most = h.most + 128;
                left = l;
                within = omega (arith, few);
                quiet = h.quiet;
                r2 = h.r2;
                r11 = h.r11;
                cursor = g.next;
              },
            );
      }

  -- from where the loop is reached
  loops : (e : Run) → Left most_heap_steps stay (fill n s e.regs.r8 0 (done a)) most_heap_steps → Holds s e.bytes → e.steps ≤ 7000 → ports e.seen ≡ []
      → e.regs.r8 ≡ a → e.regs.r2 ≡ a → e.regs.r11 ≡ stop → FromLoop C (tree NODES) G e
  loops e l holds few quiet r8 r2 r11 =
      looped C fair_own (tree NODES) G Inv turn n e record {
        memory = s.memory;
        holds = holds;
        most = most_heap_steps;
        left = l;
        within = omega (arith, few);
        quiet = quiet;
        r2 = r2;
        r11 = r11;
        cursor = starting a n stop 0 e.regs.r8 span r8;
      }

-- ---- the product

too_large : (n : ℕ) → (n / 2 ^ 32 ≡ 0 → ⊥) → nat_le (2 ^ 32) n ≡ true
too_large n h = le-leb (2 ^ 32) n (⊎_elim (λ (l : n < 2 ^ 32). absurd (h (omega (arith, l)))) (λ (g : 2 ^ 32 ≤ n). g) (cases_lt n (2 ^ 32)))

fits_word : (n : ℕ) → n / 2 ^ 32 ≡ 0 → nat_le (2 ^ 32) n ≡ false
fits_word n h = grind arith

pub serves : Serves own most_heap_steps calloc CALLOC (tree NODES)
serves s d z m h =
    let n : ℕ = (registers_of s).r4 * (registers_of s).r5 in
    let stay : Stay = calloc s in
    start C fair_own (tree NODES) CALLOC (λ _. ⊥) (λ to e. Through stay most_heap_steps to e) (begun (called_with (registers_of s) d) z m) (
      λ over. through stay most_heap_steps _ _ refl (answers most_heap_steps s _ stay (ap (λ b. if b then answered s 0 else clears n s (allocates s.heap n)) (too_large n over)) h.holds (omega arith)),
      λ fits.
          let is : stay ≡ clears n s (allocates s.heap n) = ap (λ b. if b then answered s 0 else clears n s (allocates s.heap n)) (fits_word n fits) in
          let low : n % 2 ^ 32 ≡ n = omega (arith, fits) in
          allotting s h.valid m h.holds _ _ _ _ _ (omega (arith, fits)) (λ a2 a8 a9 a10 a11 a12 a13 a15 y x u p quiet came few.
          ⊎_elim
          (λ (none : NotGiven s (allocates s.heap n) a2 x). (
            λ null. through stay most_heap_steps _ _ quiet (answers most_heap_steps s _ stay (is ∙ ap (clears n s) none.is ∙ ap (answered s) (sym none.null)) none.holds (omega (arith, few))),
            λ some. absurd (some none.null),
          ))
          (λ (o : IsGiven s (allocates s.heap n) a2 x).
          let g = o.given in
          let t : KernelState = with_blocks s g.blocks in
          let b : UserBlock g.at (rounded n) = given_block s.heap h.valid.heap n g o.is in
          let l = left_is stay _ _ most_heap_steps (is ∙ ap (clears n s) o.is ∙ ap (λ y. fill n t y 0 (done g.at)) (sym o.at)) (left_all stay) in
          let span = block_span g.at (rounded n) n b (omega arith) in (
            λ null. absurd (not_null g.at (rounded n) b (sym o.at ∙ null)),
            λ some. loops stay t (valid_heaped s t.heap h.valid (allocates_fits s.heap n g o.is h.valid.heap)) g.at n ((g.at + n) % 2 ^ 32) span _ l o.holds (omega (arith, few)) quiet o.at o.at (omega (arith, o.at, low)),
          ))
          (came_by s (allocates s.heap n) a2 x (subst (λ y. Came s (allocates s.heap y) a2 x) low came))),
    )
