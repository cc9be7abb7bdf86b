-- strchr meets its stay.
use Rattle.psx_flow.proofs.Kit.{◌≡◌, ℕ, suc, ◌+◌, ◌-◌, ◌*◌, ◌%◌, ◌^◌, ◌<◌, ◌≤◌, ◌++◌, refl, sym, ap, ◌∙◌, subst, arith, Memory, byte, Run, Goal, Calls, calls, place, kernel_words, start}
use Rattle.std.proofs.Common.{zero, ◌/◌, [], eq-eqb, ne_eqb}
use Rattle.std.specs.Prelude.{nat_eq, if◌then◌else◌}
use Rattle.psx_base.specs.KernelState.{KernelState}
use Rattle.psx_flow.specs.Told.{ports}
use Rattle.abs_kernel.specs.Stay.{Stay}
use Rattle.abs_kernel.specs.Answered.{registers_of, answered}
use Rattle.abs_kernel.specs.UserBytes.{reads_byte, bad_pointer, following, longest}
use Rattle.abs_kernel.specs.Strchr.{find_first, strchr}
use Rattle.abs_kernel.specs.declared.calls.CallId.TheVariants.{A1E}
use Rattle.abs_kernel.specs.Calls.{call}
use Rattle.kern_stay.specs.Room.{room}
use Rattle.kern_stay.specs.Shared.{tree, tested_there}
use Rattle.kern_stay.specs.Doors.{Holds, Through, Serves, called_with, begun, most_steps}
use Rattle.kern_stay.proofs.RoomGiven.{KnowsRoom, knows_room}
use Rattle.kern_stay.proofs.RoomLeft.{Span, span_some}
use Rattle.kern_stay.proofs.Ending.{low_byte, through, answers, Left, left_all, left_is, left_read, left_unread, user_byte}
use Rattle.kern_stay.proofs.Looping.{starting, Turning, FromLoop, looped, leaves, stops}
use Rattle.kern_stay.proofs.Cursor.{Cursor, coming, done_bad, null, not_null}
use Rattle.kern_text.specs.Own.{own}
use Rattle.kern_text.specs.declared.places.TheConstants.{STRCHR, ROOM}
use Rattle.kern_text.specs.declared.a1e_strchr.TheConstants.{NODES}
use Rattle.kern_text.proofs.A1bStrlen.{room_short}

-- a byte is read
abbrev pub seen : (n : ℕ) (s : KernelState) (at c b : ℕ) → Stay
seen n s at c b = if nat_eq b c then answered s at else (if nat_eq b 0 then answered s 0 else find_first n s (following at) c)

find_more : (n : ℕ) (s : KernelState) (at c : ℕ) → 0 < n → find_first n s at c ≡ reads_byte s at (seen (n - 1) s at c)
find_more zero s at c h = absurd (omega arith)
find_more (suc n) s at c h = let e : suc n - 1 ≡ n = omega arith in ap (λ j. reads_byte s at (seen j s at c)) (sym e)

-- at the loop's head, with k bytes to come up to the first that isn't user memory, and that one
record Head (stay : Stay) (s : KernelState) (m : Memory) (a n c stop k : ℕ) (e : Run) : Type 0 where
  fuel : ℕ
  some : k ≤ fuel
  most : ℕ
  left : Left most_steps stay (find_first fuel s e.regs.r8 c) most
  within : e.steps + 20 ≤ most
  bytes : e.bytes ≡ m
  quiet : ports e.seen ≡ []
  r5 : e.regs.r5 ≡ c
  r11 : e.regs.r11 ≡ stop
  cursor : Cursor a n stop k e.regs.r8

module _ (C : Calls) (know : KnowsRoom ROOM C) (stay : Stay) (s : KernelState) (m : Memory) (holds : Holds s m) (a n c stop : ℕ) (span : Span a n stop 1) where
  abbrev G : ℕ → Goal
  G to e = Through stay most_steps to e

  abbrev Inv : ℕ → Goal
  Inv k e = Head stay s m a n c stop k e

  turn : (k : ℕ) (e : Run) → Inv k e → Turning C (tree NODES) G Inv k e
  turn k e h =
      let x : ℕ = e.regs.r8 in
      let there : Holds s e.bytes = subst (Holds s) (sym h.bytes) holds in
      let few = h.within in
      let next : ℕ → Stay = seen (h.fuel - 1) s x c in
      let goes : Stay = find_first (h.fuel - 1) s (following x) c in
      record {
        leave = λ eq.
            let b = done_bad a n stop 1 k x span h.cursor (eq ∙ h.r11) (λ z. absurd (omega (arith, z))) in
            let l = left_unread stay s x next h.most b.user (left_is stay _ _ h.most (find_more h.fuel s x c (omega (arith, b.some, h.some))) h.left) in
            stops stay (bad_pointer s x) (h.most + 128) s _ l h.quiet refl there (omega arith);
        again = λ ne.
            let g = coming a n stop 1 k x span h.cursor (λ q. ne (q ∙ sym h.r11)) in
            let v : ℕ = byte s.memory (place x) in
            let is : byte e.bytes (place x) ≡ v = user_byte s e.bytes there x g.user in
            let l = left_read stay s x next h.most g.user (left_is stay _ _ h.most (find_more h.fuel s x c (omega (arith, g.some, h.some))) h.left) in
            rw (g.here, g.sort) (
              λ eq.
                  let lf = left_is stay _ _ (h.most + 128) (ap (λ b. if b then answered s x else (if nat_eq v 0 then answered s 0 else goes)) (eq-eqb v c (sym is ∙ eq ∙ h.r5))) l in
                  leaves stay (answered s x) (h.most + 128) s _ lf h.quiet (ap (answered s) (sym g.back)) there (omega arith),
              λ ne.
                  let l = left_is stay _ _ (h.most + 128) (ap (λ b. if b then answered s x else (if nat_eq v 0 then answered s 0 else goes)) (ne_eqb v c (λ q. ne (is ∙ q ∙ sym h.r5)))) l in (
                    λ z.
                        let lz = left_is stay _ _ (h.most + 128) (ap (λ b. if b then answered s 0 else goes) (eq-eqb v 0 (sym is ∙ z))) l in
                        leaves stay (answered s 0) (h.most + 128) s _ lz h.quiet refl there (omega arith),
                    λ nz.
                        let ln = left_is stay _ _ (h.most + 128) (ap (λ b. if b then answered s 0 else goes) (ne_eqb v 0 (λ q. nz (is ∙ q)))) l in (
                          k - 1,
                          g.less,
                          record {
                            fuel = h.fuel - 1;
                            some = omega (arith, h.some);
                            most = h.most + 128;
                            left = ln;
                            within = omega arith;
                            bytes = h.bytes;
                            quiet = h.quiet;
                            r5 = h.r5;
                            r11 = h.r11;
                            cursor = g.next;
                          },
                        ),
                  ),
            );
      }

  -- from where the loop is reached
  loops : (e : Run) → n ≤ longest → Left most_steps stay (find_first longest s e.regs.r8 c) most_steps → e.bytes ≡ m → e.steps ≤ 1000 → ports e.seen ≡ []
      → e.regs.r8 ≡ a → e.regs.r5 ≡ c → e.regs.r11 ≡ stop → FromLoop C (tree NODES) G e
  loops e short l bytes few quiet r8 r5 r11 =
      looped C know.fair (tree NODES) G Inv turn n e
      record { fuel = longest; some = short; most = most_steps; left = l; within = omega arith; bytes = bytes; quiet = quiet; r5 = r5; r11 = r11; cursor = starting a n stop 1 e.regs.r8 span r8 }

pub serves : Serves own most_steps (call A1E) STRCHR (tree NODES)
serves s d z m h =
    let C : Calls = calls kernel_words (own ++ tested_there) in
    let know : KnowsRoom ROOM C = knows_room ROOM tested_there in
    let a : ℕ = (registers_of s).r4 in
    let b : ℕ = (registers_of s).r5 in
    let c : ℕ = b * 2 ^ 24 % 2 ^ 32 / 2 ^ 24 in
    let small : a < 2 ^ 32 = h.words 4 in
    let n : ℕ = room a + 1 in
    let sp = span_some a n 1 small (λ e. absurd (omega (arith, e))) (omega arith) in
    let few : n ≤ longest = room_short a in
    let goes : Stay = find_first longest s a (b % 2 ^ 8) in
    start C know.fair (tree NODES) STRCHR (λ _. ⊥) (λ to e. Through (strchr s) most_steps to e) (begun (called_with (registers_of s) d) z m) (
      λ none. through (strchr s) most_steps _ _ refl (answers most_steps s _ (strchr s) (null a (answered s 0) goes none) h.holds (omega arith)),
      λ some.
          let l = left_is (strchr s) _ _ most_steps (not_null a (answered s 0) goes some ∙ (λ i. find_first longest s a (sym (low_byte b) i))) (left_all (strchr s)) in
          know.room _ _ _ _ _ _ _ small (λ x y p up. loops C know (strchr s) s m h.holds a n c ((a + room a) % 2 ^ 32) sp _ few l refl (omega arith) refl refl refl refl),
    )
