-- memset and bzero meet their stays.
use Rattle.psx_flow.proofs.Kit.{◌≡◌, ℕ, suc, ◌+◌, ◌-◌, ◌%◌, ◌^◌, ◌<◌, ◌≤◌, ◌++◌, refl, sym, ap, ◌∙◌, subst, arith, Memory, Registers, Cop0, put_byte, Run, Goal, Calls, calls, place, kernel_words, start, Sym, Count, ended}
use Rattle.std.proofs.Common.{zero, []}
use Rattle.std.specs.Prelude.{nat_lt}
use Rattle.psx_base.specs.KernelState.{KernelState}
use Rattle.psx_cpu.specs.Words.{truth}
use Rattle.psx_flow.specs.Told.{ports}
use Rattle.kern_layout.specs.Valid.{Valid}
use Rattle.abs_kernel.proofs.Moved.{valid_moved}
use Rattle.abs_kernel.specs.Stay.{Stay}
use Rattle.abs_kernel.specs.Answered.{registers_of, answered}
use Rattle.abs_kernel.specs.UserBytes.{writes_byte, bad_pointer, following, count_of, with_byte}
use Rattle.abs_kernel.specs.Memset.{fill, fills, memset, bzero}
use Rattle.abs_kernel.specs.declared.calls.CallId.TheVariants.{A28, A2B}
use Rattle.abs_kernel.specs.Calls.{call}
use Rattle.kern_stay.specs.Room.{room}
use Rattle.kern_stay.specs.Shared.{tree, tested_there}
use Rattle.kern_stay.specs.Doors.{Holds, Through, Serves, called_with, begun, most_steps}
use Rattle.kern_stay.proofs.RoomGiven.{KnowsRoom, knows_room, true_then, false_then}
use Rattle.kern_stay.proofs.RoomLeft.{Span, span_all, span_some}
use Rattle.kern_stay.proofs.Holding.{holds_byte}
use Rattle.kern_stay.proofs.Ending.{no_count, a_count, through, answers, Left, left_all, left_is, left_written, left_unwritten}
use Rattle.kern_stay.proofs.Looping.{starting, Turning, FromLoop, looped, leaves, stops}
use Rattle.kern_stay.proofs.Cursor.{Cursor, coming, done_all, done_bad, null, not_null}
use Rattle.kern_mem.specs.Own.{own}
use Rattle.kern_mem.specs.declared.places.TheConstants.{MEMSET, BZERO, ROOM}
use Rattle.kern_mem.specs.declared.a2b_memset.TheConstants.{NODES, BZERO_NODES}

-- the state with its memory so far
abbrev now : KernelState → Memory → KernelState
now s u = record s { memory = u }

-- what follows the bytes
abbrev done : ℕ → KernelState → Stay
done d t = answered t d

fill_more : (k : ℕ) (s : KernelState) (at v d : ℕ) → 0 < k → fill k s at v (done d) ≡ writes_byte s at v (λ t. fill (k - 1) t (following at) v (done d))
fill_more zero s at v d h = absurd (omega arith)
fill_more (suc k) s at v d h = let e : suc k - 1 ≡ k = omega arith in ap (λ n. writes_byte s at v (λ t. fill n t (following at) v (done d))) (sym e)

fill_none : (k : ℕ) (s : KernelState) (at v d : ℕ) → k ≡ 0 → fill k s at v (done d) ≡ answered s d
fill_none k s at v d e = ap (λ n. fill n s at v (done d)) e

-- at the loop's head, with k bytes to come
record Head (stay : Stay) (s : KernelState) (a n v b stop flag k : ℕ) (e : Run) : Type 0 where
  memory : Memory
  holds : Holds (now s memory) e.bytes
  most : ℕ
  left : Left most_steps stay (fill k (now s memory) e.regs.r8 v (done a)) most
  within : e.steps + 20 ≤ most
  quiet : ports e.seen ≡ []
  r4 : e.regs.r4 ≡ a
  r5 : e.regs.r5 ≡ b
  r10 : e.regs.r10 ≡ flag
  r11 : e.regs.r11 ≡ stop
  cursor : Cursor a n stop k e.regs.r8

module _ (C : Calls) (know : KnowsRoom ROOM C) (stay : Stay) (s : KernelState) (valid : Valid s) (a n b stop flag : ℕ) (span : Span a n stop flag) where
  abbrev G : ℕ → Goal
  G to e = Through stay most_steps to e

  abbrev Inv : ℕ → Goal
  Inv k e = Head stay s a n (b % 2 ^ 8) b stop flag k e

  abbrev v : ℕ
  v = b % 2 ^ 8

  abbrev next : (x k : ℕ) → KernelState → Stay
  next x k t = fill (k - 1) t (following x) v (done a)

  turn : (k : ℕ) (e : Run) → Inv k e → Turning C (tree NODES) G Inv k e
  turn k e h =
      let x : ℕ = e.regs.r8 in
      let t : KernelState = now s h.memory in
      let few = h.within in
      record {
        leave = λ eq. (
          λ ne.
              let p = done_bad a n stop flag k x span h.cursor (eq ∙ h.r11) (λ z. ne (h.r10 ∙ z)) in
              let l = left_unwritten stay t x v (next x k) h.most p.user (left_is stay _ _ h.most (fill_more k t x v a p.some) h.left) in
              stops stay (bad_pointer t x) (h.most + 128) t _ l h.quiet refl h.holds (omega arith),
          λ z.
              let l = left_is stay _ _ h.most (fill_none k t x v a (done_all a n stop flag k x span h.cursor (eq ∙ h.r11) (sym h.r10 ∙ z))) h.left in
              leaves stay (answered t a) h.most t _ l h.quiet (ap (answered t) (sym h.r4)) h.holds (omega arith),
        );
        again = λ ne.
            let g = coming a n stop flag k x span h.cursor (λ q. ne (q ∙ sym h.r11)) in
            let l = left_written stay t x v (next x k) h.most g.user (left_is stay _ _ h.most (fill_more k t x v a g.some) h.left) in
            let kept : Valid t = valid_moved s h.memory s.random s.running valid valid.running in
            let stored : Holds (with_byte t x v) (put_byte e.bytes (place x) (e.regs.r5 % 2 ^ 8)) =
            subst (λ y. Holds (with_byte t x v) (put_byte e.bytes (place x) (y % 2 ^ 8))) (sym h.r5) (holds_byte t kept e.bytes h.holds x v g.user) in
            rw (g.here, g.sort) (
              k - 1,
              g.less,
              record {
                memory = put_byte h.memory (place x) v;
                holds = stored;
                most = h.most + 128;
                left = l;
                within = omega arith;
                quiet = h.quiet;
                r4 = h.r4;
                r5 = h.r5;
                r10 = h.r10;
                r11 = h.r11;
                cursor = g.next;
              },
            );
      }

  -- from where the loop is reached
  loops : (e : Run) → Left most_steps stay (fill n s e.regs.r8 (b % 2 ^ 8) (done a)) most_steps → Holds s e.bytes → e.steps ≤ 1000 → ports e.seen ≡ []
      → e.regs.r8 ≡ a → e.regs.r4 ≡ a → e.regs.r5 ≡ b → e.regs.r10 ≡ flag → e.regs.r11 ≡ stop → FromLoop C (tree NODES) G e
  loops e l holds few quiet r8 r4 r5 r10 r11 =
      looped C know.fair (tree NODES) G Inv turn n e record {
        memory = s.memory;
        holds = holds;
        most = most_steps;
        left = l;
        within = omega arith;
        quiet = quiet;
        r4 = r4;
        r5 = r5;
        r10 = r10;
        r11 = r11;
        cursor = starting a n stop flag e.regs.r8 span r8;
      }

-- how the stay goes on behind the pointer
begins : (s : KernelState) (a b n k : ℕ) → (a ≡ 0 → ⊥) → count_of n ≡ k → fills s a b n ≡ fill k s a (b % 2 ^ 8) (done a)
begins s a b n k ne e = not_null a (answered s 0) (fill (count_of n) s a (b % 2 ^ 8) (done a)) ne ∙ ap (λ k. fill k s a (b % 2 ^ 8) (done a)) e

abbrev C : Calls
C = calls kernel_words (own ++ tested_there)

know : KnowsRoom ROOM C
know = knows_room ROOM tested_there

-- from where the place is in r4, the byte in r5 and the count in r6
filling : (s : KernelState) → Valid s → (c : Registers) (z : Cop0) (m : Memory) → Holds s m → (at : ℕ) (p : Count) → p.steps ≤ 100 → c.r4 < 2 ^ 32
    → Sym C (tree NODES) at (ended (λ _. ⊥)) (λ to e. Through (fills s c.r4 c.r5 c.r6) most_steps to e) c z m [] [] p
filling s valid c z m holds at p soon small =
    let a : ℕ = c.r4 in
    let b : ℕ = c.r5 in
    let n : ℕ = c.r6 in
    let stay : Stay = fills s a b n in
    let flag : ℕ = truth (nat_lt (room a) n) in (
      λ none. through stay most_steps _ _ refl (answers most_steps s _ stay (null a (answered s 0) _ none) holds (omega arith)),
      λ some. (
        λ few. through stay most_steps _ _ refl (answers most_steps s _ stay (begins s a b n 0 some (no_count n few)) holds (omega arith)),
        λ pos.
            let l = left_is stay _ _ most_steps (begins s a b n n some (a_count n pos.1)) (left_all stay) in
            know.room _ _ _ _ _ _ _ small (λ x y q up. (
              λ z.
                  let all = span_all a n flag small z (false_then (room a) n z) in
                  loops C know stay s valid a n b ((a + n) % 2 ^ 32) flag all _ l holds (omega arith) refl refl refl refl refl refl,
              λ ne.
                  let bad = span_some a n flag small ne (true_then (room a) n ne) in
                  loops C know stay s valid a n b ((a + room a) % 2 ^ 32) flag bad _ l holds (omega arith) refl refl refl refl refl refl,
            )),
      ),
    )

pub serves : Serves own most_steps (call A2B) MEMSET (tree NODES)
serves s d z m h =
    start C know.fair (tree NODES) MEMSET (λ _. ⊥) (λ to e. Through (memset s) most_steps to e) (begun (called_with (registers_of s) d) z m)
    (filling s h.valid _ z m h.holds MEMSET _ (omega arith) (h.words 4))

pub bzero_serves : Serves own most_steps (call A28) BZERO (tree BZERO_NODES)
bzero_serves s d z m h =
    start C know.fair (tree BZERO_NODES) BZERO (λ _. ⊥) (λ to e. Through (bzero s) most_steps to e) (begun (called_with (registers_of s) d) z m)
    (filling s h.valid _ z m h.holds (BZERO + 4 + 4) _ (omega arith) (h.words 4))
