-- strncpy meets its stay.
use Rattle.psx_flow.proofs.Kit.{◌≡◌, ℕ, suc, ◌+◌, ◌-◌, ◌%◌, ◌^◌, ◌<◌, ◌≤◌, ◌++◌, true, false, refl, sym, ap, ◌∙◌, arith, ⊎_elim, Memory, byte, put_byte, Run, Goal, Calls, calls, place, user, kernel_words, start}
use Rattle.std.proofs.Common.{zero, []}
use Rattle.std.specs.Prelude.{nat_lt}
use Rattle.std.proofs.lemmas.Bool.{cases_eq}
use Rattle.psx_base.specs.KernelState.{KernelState}
use Rattle.psx_cpu.specs.Words.{truth}
use Rattle.psx_flow.specs.Told.{ports}
use Rattle.kern_layout.specs.Valid.{Valid}
use Rattle.abs_kernel.specs.Stay.{Stay}
use Rattle.abs_kernel.specs.Answered.{registers_of, answered}
use Rattle.abs_kernel.specs.UserBytes.{writes_byte, bad_pointer, following, count_of, with_byte}
use Rattle.abs_kernel.specs.Strcpy.{copy_text}
use Rattle.abs_kernel.specs.Strncpy.{pads, strncpy}
use Rattle.abs_kernel.specs.declared.calls.CallId.TheVariants.{A1A}
use Rattle.abs_kernel.specs.Calls.{call}
use Rattle.kern_stay.specs.Room.{room}
use Rattle.kern_stay.specs.Shared.{tree, tested_there}
use Rattle.kern_stay.specs.Doors.{Holds, Through, Serves, called_with, begun, most_steps}
use Rattle.kern_stay.proofs.RoomGiven.{KnowsRoom, knows_room, true_then, false_then}
use Rattle.kern_stay.proofs.RoomLeft.{Span, span_all, span_some}
use Rattle.kern_stay.proofs.Ending.{no_count, a_count, through, answers, Left, left_all, left_is, left_read, left_unread, left_written, left_unwritten, user_byte}
use Rattle.kern_stay.proofs.Looping.{starting, Turning, FromLoop, looped, leaves, stops}
use Rattle.kern_stay.proofs.Cursor.{Cursor, coming, done_all, done_bad}
use Rattle.kern_text.specs.Own.{own}
use Rattle.kern_text.specs.declared.places.TheConstants.{STRNCPY, ROOM}
use Rattle.kern_text.specs.declared.a1a_strncpy.TheConstants.{NODES}
use Rattle.kern_text.proofs.Pointers.{null_first, null_other, no_null}
use Rattle.kern_text.proofs.CopyText.{Leaving, Again, now, byte_came, copy_more, copy_none, zero_came, other_came, copied}

fill_more : (k : ℕ) (s : KernelState) (at d : ℕ) → 0 < k → pads d k s at ≡ writes_byte s at 0 (λ t. pads d (k - 1) t (following at))
fill_more zero s at d h = absurd (omega arith)
fill_more (suc k) s at d h = let e : suc k - 1 ≡ k = omega arith in ap (λ n. writes_byte s at 0 (λ t. pads d n t (following at))) (sym e)

fill_none : (k : ℕ) (s : KernelState) (at d : ℕ) → k ≡ 0 → pads d k s at ≡ answered s d
fill_none k s at d e = ap (λ n. pads d n s at) e

-- what is left with k bytes to write at y: those of the text from x on, or zeros where its zero was read last
abbrev Rest : Stay → (v k x y d : ℕ) → KernelState → (most : ℕ) → Type 0
Rest stay v k x y d s most = ((v ≡ 0 → ⊥) → Left most_steps stay (copy_text k s y x (pads d)) most) × (v ≡ 0 → Left most_steps stay (pads d k s y) most)

-- at the loop's head, with k bytes to write and j to read up to the first that isn't user memory, and that one
record Head (stay : Stay) (s : KernelState) (a from_end b n stop flag k : ℕ) (e : Run) : Type 0 where
  memory : Memory
  holds : Holds (now s memory) e.bytes
  most : ℕ
  rest : Rest stay e.regs.r12 k e.regs.r5 e.regs.r8 b (now s memory) most
  within : e.steps + 20 ≤ most
  quiet : ports e.seen ≡ []
  r2 : e.regs.r2 ≡ b
  r10 : e.regs.r10 ≡ flag
  r11 : e.regs.r11 ≡ stop
  r14 : e.regs.r14 ≡ from_end
  cursor : Cursor b n stop k e.regs.r8
  to_read : ℕ
  reading : Cursor a (room a + 1) from_end to_read e.regs.r5

module _ (C : Calls) (know : KnowsRoom ROOM C) (stay : Stay) (s : KernelState) (valid : Valid s) (a from_end b n stop flag : ℕ) (from : Span a (room a + 1) from_end 1)
    (span : Span b n stop flag) where
  abbrev G : ℕ → Goal
  G to e = Through stay most_steps to e

  abbrev Inv : ℕ → Goal
  Inv k e = Head stay s a from_end b n stop flag k e

  -- what is left when the source's byte is bad
  unread : (k x y j most : ℕ) (t : KernelState) → 0 < k → Cursor a (room a + 1) from_end j x → x ≡ from_end → Left most_steps stay (copy_text k t y x (pads b)) most
      → Left most_steps stay (bad_pointer t x) (most + 128)
  unread k x y j most t some c e l =
      let p = done_bad a (room a + 1) from_end 1 j x from c e (λ z. absurd (omega (arith, z))) in
      left_unread stay t x (byte_came k t y x (pads b)) most p.user (left_is stay _ _ most (copy_more k t y x (pads b) some) l)

  -- and when the destination's is, where zeros are left, or a byte came
  unpadded : (k y most : ℕ) (t : KernelState) → 0 < k → user y ≡ false → Left most_steps stay (pads b k t y) most → Left most_steps stay (bad_pointer t y) (most + 128)
  unpadded k y most t some bad l = left_unwritten stay t y 0 (λ u. pads b (k - 1) u (following y)) most bad (left_is stay _ _ most (fill_more k t y b some) l)

  unwritten : (k x y v most : ℕ) (t : KernelState) → 0 < k → user y ≡ false → Left most_steps stay (byte_came k t y x (pads b) v) most → Left most_steps stay (bad_pointer t y) (most + 128)
  unwritten k x y v most t some bad l = ⊎_elim
      (λ (z : v ≡ 0). unpadded k y most t some bad (left_is stay _ _ most (zero_came k t y x (pads b) v z) l))
      (λ (nz : v ≡ 0 → ⊥). left_unwritten stay t y (v % 2 ^ 8) (λ u. copy_text (k - 1) u (following y) (following x) (pads b)) most bad (left_is stay _ _ most (other_came k t y x (pads b) v nz) l))
      (cases_eq v 0)

  -- a byte is written, and what is left behind it
  padded : (k y most : ℕ) (t : KernelState) → 0 < k → user y ≡ true → Left most_steps stay (pads b k t y) most → Left most_steps stay (pads b (k - 1) (with_byte t y 0) (following y)) (most + 128)
  padded k y most t some good l = left_written stay t y 0 (λ u. pads b (k - 1) u (following y)) most good (left_is stay _ _ most (fill_more k t y b some) l)

  leave : (k : ℕ) (e : Run) → Inv k e → e.regs.r8 ≡ e.regs.r11 → Leaving C (tree NODES) G e
  leave k e h eq =
      let x : ℕ = e.regs.r5 in
      let y : ℕ = e.regs.r8 in
      let t : KernelState = now s h.memory in
      let v : ℕ = byte h.memory (place x) in
      let few = h.within in
      let read = λ (some : 0 < k) (good : user x ≡ true) (nz : e.regs.r12 ≡ 0 → ⊥). left_read stay t x (byte_came k t y x (pads b)) h.most good
      (left_is stay _ _ h.most (copy_more k t y x (pads b) some) (h.rest.0 nz)) in
      let came = λ (ne : x ≡ e.regs.r14 → ⊥). coming a (room a + 1) from_end 1 h.to_read x from h.reading (λ q. ne (q ∙ sym h.r14)) in (
        λ z.
            let all = done_all b n stop flag k y span h.cursor (eq ∙ h.r11) (sym h.r10 ∙ z) in
            let l = ⊎_elim
            (λ o. left_is stay _ _ h.most (fill_none k t y b all) (h.rest.1 o))
            (λ o. left_is stay _ _ h.most (copy_none k t y x (pads b) all) (h.rest.0 o))
            (cases_eq e.regs.r12 0) in
            leaves stay (answered t b) h.most t _ l h.quiet (ap (answered t) (sym h.r2)) h.holds (omega arith),
        λ ne.
            let p = done_bad b n stop flag k y span h.cursor (eq ∙ h.r11) (λ z. ne (h.r10 ∙ z)) in (
              λ nz. (
                λ q. stops stay (bad_pointer t x) (h.most + 128) t _ (unread k x y h.to_read h.most t p.some h.reading (q ∙ h.r14) (h.rest.0 nz)) h.quiet refl h.holds (omega arith),
                λ q. stops stay (bad_pointer t y) (h.most + 128 + 128) t _ (unwritten k x y v (h.most + 128) t p.some p.user (read p.some (came q).user nz)) h.quiet refl h.holds (omega arith),
              ),
              λ z. stops stay (bad_pointer t y) (h.most + 128) t _ (unpadded k y h.most t p.some p.user (h.rest.1 z)) h.quiet refl h.holds (omega arith),
            ),
      )

  again : (k : ℕ) (e : Run) → Inv k e → (e.regs.r8 ≡ e.regs.r11 → ⊥) → Again C (tree NODES) G Inv k e
  again k e h ne =
      let x : ℕ = e.regs.r5 in
      let y : ℕ = e.regs.r8 in
      let t : KernelState = now s h.memory in
      let v : ℕ = byte h.memory (place x) in
      let few = h.within in
      let read = λ (some : 0 < k) (good : user x ≡ true) (nz : e.regs.r12 ≡ 0 → ⊥). left_read stay t x (byte_came k t y x (pads b)) h.most good
      (left_is stay _ _ h.most (copy_more k t y x (pads b) some) (h.rest.0 nz)) in
      let came = λ (ne : x ≡ e.regs.r14 → ⊥). coming a (room a + 1) from_end 1 h.to_read x from h.reading (λ q. ne (q ∙ sym h.r14)) in
      let g = coming b n stop flag k y span h.cursor (λ q. ne (q ∙ sym h.r11)) in (
        λ nz. (
          λ q. stops stay (bad_pointer t x) (h.most + 128) t _ (unread k x y h.to_read h.most t g.some h.reading (q ∙ h.r14) (h.rest.0 nz)) h.quiet refl h.holds (omega arith),
          λ q.
              let f = came q in
              let is : byte e.bytes (place x) ≡ v = user_byte t e.bytes h.holds x f.user in
              let l = read g.some f.user nz in
              rw (f.here, f.sort, g.here, g.sort) (
                k - 1,
                g.less,
                record {
                  memory = put_byte h.memory (place y) (v % 2 ^ 8);
                  holds = copied s valid h.memory e.bytes h.holds y v _ g.user is;
                  most = h.most + 128 + 128;
                  rest = (
                    λ o. left_written stay t y (v % 2 ^ 8) (λ u. copy_text (k - 1) u (following y) (following x) (pads b)) (h.most + 128) g.user
                        (left_is stay _ _ _ (other_came k t y x (pads b) v (λ z. o (is ∙ z))) l),
                    λ o. left_is stay _ _ _ (ap (λ u. pads b (k - 1) (with_byte t y (u % 2 ^ 8)) (following y)) (sym (sym is ∙ o)))
                        (padded k y (h.most + 128) t g.some g.user (left_is stay _ _ _ (zero_came k t y x (pads b) v (sym is ∙ o)) l)),
                  );
                  within = omega arith;
                  quiet = h.quiet;
                  r2 = h.r2;
                  r10 = h.r10;
                  r11 = h.r11;
                  r14 = h.r14;
                  cursor = g.next;
                  to_read = h.to_read - 1;
                  reading = f.next;
                },
              ),
        ),
        λ z. rw (g.here, g.sort) (
          k - 1,
          g.less,
          record {
            memory = put_byte h.memory (place y) 0;
            holds = copied s valid h.memory e.bytes h.holds y 0 e.regs.r12 g.user z;
            most = h.most + 128;
            rest = (λ o. absurd (o z), λ o. padded k y h.most t g.some g.user (h.rest.1 z));
            within = omega arith;
            quiet = h.quiet;
            r2 = h.r2;
            r10 = h.r10;
            r11 = h.r11;
            r14 = h.r14;
            cursor = g.next;
            to_read = h.to_read;
            reading = h.reading;
          },
        ),
      )

  turn : (k : ℕ) (e : Run) → Inv k e → Turning C (tree NODES) G Inv k e
  turn k e h = record { leave = leave k e h; again = again k e h }

  -- from where the loop is reached
  loops : (e : Run) → Left most_steps stay (copy_text n s e.regs.r8 e.regs.r5 (pads b)) most_steps → Holds s e.bytes → e.steps ≤ 1000 → ports e.seen ≡ []
      → (e.regs.r12 ≡ 0 → ⊥) → e.regs.r5 ≡ a → e.regs.r8 ≡ b → e.regs.r2 ≡ b → e.regs.r10 ≡ flag → e.regs.r11 ≡ stop → e.regs.r14 ≡ from_end → FromLoop C (tree NODES) G e
  loops e l holds few quiet nz r5 r8 r2 r10 r11 r14 =
      looped C know.fair (tree NODES) G Inv turn n e record {
        memory = s.memory;
        holds = holds;
        most = most_steps;
        rest = (λ o. l, λ o. absurd (nz o));
        within = omega arith;
        quiet = quiet;
        r2 = r2;
        r10 = r10;
        r11 = r11;
        r14 = r14;
        cursor = starting b n stop flag e.regs.r8 span r8;
        to_read = room a + 1;
        reading = starting a (room a + 1) from_end 1 e.regs.r5 from r5;
      }

pub serves : Serves own most_steps (call A1A) STRNCPY (tree NODES)
serves s d z m h =
    let C : Calls = calls kernel_words (own ++ tested_there) in
    let know : KnowsRoom ROOM C = knows_room ROOM tested_there in
    let b : ℕ = (registers_of s).r4 in
    let a : ℕ = (registers_of s).r5 in
    let n : ℕ = (registers_of s).r6 in
    let small_b : b < 2 ^ 32 = h.words 4 in
    let small_a : a < 2 ^ 32 = h.words 5 in
    let go : Stay = copy_text (count_of n) s b a (pads b) in
    let flag : ℕ = truth (nat_lt (room b) n) in
    let from = span_some a (room a + 1) 1 small_a (λ e. absurd (omega (arith, e))) (omega arith) in
    let begins = λ (i : ℕ) (nd : b ≡ 0 → ⊥) (ns : a ≡ 0 → ⊥) (e : count_of n ≡ i). no_null b a (answered s 0) go nd ns ∙ ap (λ i. copy_text i s b a (pads b)) e in
    start C know.fair (tree NODES) STRNCPY (λ _. ⊥) (λ to e. Through (strncpy s) most_steps to e) (begun (called_with (registers_of s) d) z m) (
      λ none. (
        λ o. through (strncpy s) most_steps _ _ refl (answers most_steps s _ (strncpy s) (null_other b a (answered s 0) go none) h.holds (omega arith)),
        λ no. absurd (no refl),
      ),
      λ ns. (
        λ none. through (strncpy s) most_steps _ _ refl (answers most_steps s _ (strncpy s) (null_first b a (answered s 0) go none ∙ ap (answered s) (sym none)) h.holds (omega arith)),
        λ nd. (
          λ few. through (strncpy s) most_steps _ _ refl (answers most_steps s _ (strncpy s) (begins 0 nd ns (no_count n few)) h.holds (omega arith)),
          λ pos.
              let l = left_is (strncpy s) _ _ most_steps (begins n nd ns (a_count n pos.1)) (left_all (strncpy s)) in
              know.room _ _ _ _ _ _ _ small_a (λ x y p up. know.room _ _ _ _ _ _ _ small_b (λ f g q more. (
                λ o. loops C know (strncpy s) s h.valid a _ b n _ flag from (span_all b n flag small_b o (false_then (room b) n o)) _ l h.holds (omega arith) refl nd refl refl refl refl refl refl,
                λ o. loops C know (strncpy s) s h.valid a _ b n _ flag from (span_some b n flag small_b o (true_then (room b) n o)) _ l h.holds (omega arith) refl nd refl refl refl refl refl refl,
              ))),
        ),
      ),
    )
