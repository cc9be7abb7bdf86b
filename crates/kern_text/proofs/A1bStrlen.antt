-- strlen meets its stay.
use Rattle.psx_flow.proofs.Kit.{◌≡◌, ℕ, suc, ◌+◌, ◌-◌, ◌%◌, ◌^◌, ◌<◌, ◌≤◌, ◌++◌, refl, sym, ap, ◌∙◌, subst, arith, Memory, byte, Run, Goal, Calls, calls, place, kernel_words, start}
use Rattle.std.proofs.Common.{zero, [], eq-eqb, ne_eqb}
use Rattle.std.specs.Prelude.{nat_eq, if◌then◌else◌}
use Rattle.psx_base.specs.KernelState.{KernelState}
use Rattle.psx_flow.specs.Told.{ports}
use Rattle.abs_kernel.specs.Stay.{Stay}
use Rattle.abs_kernel.specs.Answered.{registers_of, answered}
use Rattle.abs_kernel.specs.UserBytes.{reads_byte, bad_pointer, following, longest}
use Rattle.abs_kernel.specs.Strlen.{count_bytes, strlen}
use Rattle.abs_kernel.specs.declared.calls.CallId.TheVariants.{A1B}
use Rattle.abs_kernel.specs.Calls.{call}
use Rattle.kern_stay.specs.Room.{room}
use Rattle.kern_stay.specs.Shared.{tree, tested_there}
use Rattle.kern_stay.specs.Doors.{Holds, Through, Serves, called_with, begun, most_steps}
use Rattle.kern_stay.proofs.RoomGiven.{KnowsRoom, knows_room}
use Rattle.kern_stay.proofs.RoomLeft.{Span, span_some, room_few}
use Rattle.kern_stay.proofs.Ending.{through, answers, Left, left_all, left_is, left_read, left_unread, user_byte}
use Rattle.kern_stay.proofs.Looping.{starting, Turning, FromLoop, looped, leaves, stops}
use Rattle.kern_stay.proofs.Cursor.{Cursor, coming, done_bad, null, not_null}
use Rattle.kern_text.specs.Own.{own}
use Rattle.kern_text.specs.declared.places.TheConstants.{STRLEN, ROOM}
use Rattle.kern_text.specs.declared.a1b_strlen.TheConstants.{NODES}

count_more : (n : ℕ) (s : KernelState) (at count : ℕ) → 0 < n
    → count_bytes n s at count ≡ reads_byte s at (λ b. if nat_eq b 0 then answered s count else count_bytes (n - 1) s (following at) (count + 1))
count_more zero s at count h = absurd (omega arith)
count_more (suc n) s at count h =
    let e : suc n - 1 ≡ n = omega arith in
    ap (λ j. reads_byte s at (λ b. if nat_eq b 0 then answered s count else count_bytes j s (following at) (count + 1))) (sym e)

-- at the loop's head, with k bytes to come up to the first that isn't user memory, and that one
record Head (stay : Stay) (s : KernelState) (m : Memory) (a n stop k : ℕ) (e : Run) : Type 0 where
  fuel : ℕ
  some : k ≤ fuel
  count : ℕ
  counted : e.regs.r8 ≡ a + count
  most : ℕ
  left : Left most_steps stay (count_bytes fuel s e.regs.r8 count) most
  within : e.steps + 20 ≤ most
  bytes : e.bytes ≡ m
  quiet : ports e.seen ≡ []
  r4 : e.regs.r4 ≡ a
  r11 : e.regs.r11 ≡ stop
  cursor : Cursor a n stop k e.regs.r8

module _ (C : Calls) (know : KnowsRoom ROOM C) (stay : Stay) (s : KernelState) (m : Memory) (holds : Holds s m) (a n stop : ℕ) (span : Span a n stop 1) where
  abbrev G : ℕ → Goal
  G to e = Through stay most_steps to e

  abbrev Inv : ℕ → Goal
  Inv k e = Head stay s m a n stop k e

  turn : (k : ℕ) (e : Run) → Inv k e → Turning C (tree NODES) G Inv k e
  turn k e h =
      let x : ℕ = e.regs.r8 in
      let there : Holds s e.bytes = subst (Holds s) (sym h.bytes) holds in
      let few = h.within in
      let next : ℕ → Stay = λ b. if nat_eq b 0 then answered s h.count else count_bytes (h.fuel - 1) s (following x) (h.count + 1) in
      record {
        leave = λ eq.
            let b = done_bad a n stop 1 k x span h.cursor (eq ∙ h.r11) (λ z. absurd (omega (arith, z))) in
            let l = left_unread stay s x next h.most b.user (left_is stay _ _ h.most (count_more h.fuel s x h.count (omega (arith, b.some, h.some))) h.left) in
            stops stay (bad_pointer s x) (h.most + 128) s _ l h.quiet refl there (omega arith);
        again = λ ne.
            let g = coming a n stop 1 k x span h.cursor (λ q. ne (q ∙ sym h.r11)) in
            let v : ℕ = byte s.memory (place x) in
            let is : byte e.bytes (place x) ≡ v = user_byte s e.bytes there x g.user in
            let l = left_read stay s x next h.most g.user (left_is stay _ _ h.most (count_more h.fuel s x h.count (omega (arith, g.some, h.some))) h.left) in
            rw (g.here, g.sort) (
              λ z.
                  let lf = left_is stay _ _ (h.most + 128) (ap (λ b. if b then answered s h.count else count_bytes (h.fuel - 1) s (following x) (h.count + 1)) (eq-eqb v 0 (sym is ∙ z))) l in
                  leaves stay (answered s h.count) (h.most + 128) s _ lf h.quiet (ap (answered s) (omega (arith, g.back, h.counted, h.r4, span.within, h.cursor.high))) there (omega arith),
              λ nz.
                  let ln = left_is stay _ _ (h.most + 128) (ap (λ b. if b then answered s h.count else count_bytes (h.fuel - 1) s (following x) (h.count + 1)) (ne_eqb v 0 (λ q. nz (is ∙ q)))) l in (
                    k - 1,
                    g.less,
                    record {
                      fuel = h.fuel - 1;
                      some = omega (arith, h.some);
                      count = h.count + 1;
                      counted = omega (arith, g.next.count, h.cursor.count, g.some, h.counted);
                      most = h.most + 128;
                      left = ln;
                      within = omega arith;
                      bytes = h.bytes;
                      quiet = h.quiet;
                      r4 = h.r4;
                      r11 = h.r11;
                      cursor = g.next;
                    },
                  ),
            );
      }

  -- from where the loop is reached
  loops : (e : Run) → n ≤ longest → Left most_steps stay (count_bytes longest s e.regs.r8 0) most_steps → e.bytes ≡ m → e.steps ≤ 1000 → ports e.seen ≡ []
      → e.regs.r8 ≡ a → e.regs.r4 ≡ a → e.regs.r11 ≡ stop → FromLoop C (tree NODES) G e
  loops e short l bytes few quiet r8 r4 r11 =
      looped C know.fair (tree NODES) G Inv turn n e record {
        fuel = longest;
        some = short;
        count = 0;
        counted = omega (arith, r8);
        most = most_steps;
        left = l;
        within = omega arith;
        bytes = bytes;
        quiet = quiet;
        r4 = r4;
        r11 = r11;
        cursor = starting a n stop 1 e.regs.r8 span r8;
      }

pub room_short : (a : ℕ) → room a + 1 ≤ longest
unfolding longest
room_short a = let h = room_few a in omega (arith, h)

pub serves : Serves own most_steps (call A1B) STRLEN (tree NODES)
serves s d z m h =
    let C : Calls = calls kernel_words (own ++ tested_there) in
    let know : KnowsRoom ROOM C = knows_room ROOM tested_there in
    let a : ℕ = (registers_of s).r4 in
    let small : a < 2 ^ 32 = h.words 4 in
    let n : ℕ = room a + 1 in
    let sp = span_some a n 1 small (λ e. absurd (omega (arith, e))) (omega arith) in
    let few : n ≤ longest = room_short a in
    start C know.fair (tree NODES) STRLEN (λ _. ⊥) (λ to e. Through (strlen s) most_steps to e) (begun (called_with (registers_of s) d) z m) (
      λ none. through (strlen s) most_steps _ _ refl (answers most_steps s _ (strlen s) (null a (answered s 0) (count_bytes longest s a 0) none) h.holds (omega arith)),
      λ some.
          let l = left_is (strlen s) _ _ most_steps (not_null a (answered s 0) (count_bytes longest s a 0) some) (left_all (strlen s)) in
          know.room _ _ _ _ _ _ _ small (λ x y p up. loops C know (strlen s) s m h.holds a n ((a + room a) % 2 ^ 32) sp _ few l refl (omega arith) refl refl refl refl),
    )
