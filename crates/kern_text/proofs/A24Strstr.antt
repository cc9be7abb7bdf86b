-- strstr meets its stay.
use Rattle.psx_flow.proofs.Kit.{◌≡◌, ℕ, suc, ◌+◌, ◌-◌, ◌%◌, ◌^◌, ◌<◌, ◌≤◌, ◌++◌, [], refl, sym, ap, ◌∙◌, subst, arith, Memory, byte, place, Run, Goal, Calls, calls, Tree, Part, kernel_words, start, while, Turn, Sym, run, by_branch}
use Rattle.std.proofs.Common.{zero, eq-eqb, ne_eqb}
use Rattle.std.specs.Prelude.{nat_eq, if◌then◌else◌}
use Rattle.psx_base.specs.KernelState.{KernelState}
use Rattle.psx_flow.specs.Told.{ports}
use Rattle.abs_kernel.specs.Stay.{Stay}
use Rattle.abs_kernel.specs.Answered.{registers_of, answered}
use Rattle.abs_kernel.specs.UserBytes.{reads_byte, bad_pointer, following, longest}
use Rattle.abs_kernel.specs.Strstr.{stands, find_text, strstr}
use Rattle.abs_kernel.specs.declared.calls.CallId.TheVariants.{A24}
use Rattle.abs_kernel.specs.Calls.{call}
use Rattle.kern_stay.specs.Shared.{tree, tested_there}
use Rattle.kern_stay.specs.Doors.{Holds, Through, Serves, called_with, begun, most_steps}
use Rattle.kern_stay.proofs.RoomGiven.{KnowsRoom, knows_room}
use Rattle.kern_stay.proofs.RoomLeft.{Span}
use Rattle.kern_stay.proofs.Ending.{through, answers, Left, left_all, left_is, left_read, left_unread, user_byte}
use Rattle.kern_stay.proofs.Looping.{starting, loop_test, loop_body, behind_loop, Turning, FromLoop, looped, leaves, stops}
use Rattle.kern_stay.proofs.Cursor.{Cursor, coming, done_bad}
use Rattle.kern_text.specs.Own.{own}
use Rattle.kern_text.specs.declared.places.TheConstants.{STRSTR, ROOM}
use Rattle.kern_text.specs.declared.a24_strstr.TheConstants.{NODES}
use Rattle.kern_text.proofs.Pointers.{null_first, null_other, no_null}
use Rattle.kern_text.proofs.TextSpan.{bytes_from, end_from, text_span, text_short}

find_more : (n : ℕ) (s : KernelState) (at t : ℕ) → 0 < n → find_text n s at t ≡ stands longest s at t (answered s at) (find_text (n - 1) s (following at) t)
find_more zero s at t h = absurd (omega arith)
find_more (suc n) s at t h = let e : suc n - 1 ≡ n = omega arith in ap (λ j. stands longest s at t (answered s at) (find_text j s (following at) t)) (sym e)

-- what follows a byte v of the text that is looked for, and the byte w beside it
abbrev behind_other : (n : ℕ) → KernelState → (at t : ℕ) → (match other : Stay) → (v w : ℕ) → Stay
behind_other n s at t match other v w = if nat_eq w 0 then answered s 0 else (if nat_eq w v then stands n s (following at) (following t) match other else other)

abbrev behind_first : (n : ℕ) → KernelState → (at t : ℕ) → (match other : Stay) → ℕ → Stay
behind_first n s at t match other v = if nat_eq v 0 then match else reads_byte s at (behind_other n s at t match other v)

stands_more : (n : ℕ) (s : KernelState) (at t : ℕ) (match other : Stay) → 0 < n → stands n s at t match other ≡ reads_byte s t (behind_first (n - 1) s at t match other)
stands_more zero s at t match other h = absurd (omega arith)
stands_more (suc n) s at t match other h = let e : suc n - 1 ≡ n = omega arith in ap (λ j. reads_byte s t (behind_first j s at t match other)) (sym e)

-- at the head of the outer loop, with k places to come up to the first that isn't user memory, and that one
record Head (stay : Stay) (s : KernelState) (m : Memory) (a n stop b last k : ℕ) (e : Run) : Type 0 where
  fuel : ℕ
  some : k ≤ fuel
  most : ℕ
  left : Left most_steps stay (find_text fuel s e.regs.r13 b) most
  within : e.steps + 200 ≤ most
  bytes : e.bytes ≡ m
  quiet : ports e.seen ≡ []
  r5 : e.regs.r5 ≡ b
  r14 : e.regs.r14 ≡ stop
  r15 : e.regs.r15 ≡ last
  cursor : Cursor a n stop k e.regs.r13

-- at that of the inner one, for the place x, with k bytes of the text that is looked for to come, and i of the other
record InnerHead (stay : Stay) (s : KernelState) (m : Memory) (a n stop x b l last : ℕ) (other : Stay) (k : ℕ) (e : Run) : Type 0 where
  fuel : ℕ
  some : k ≤ fuel
  most : ℕ
  same : e.regs.r10 ≡ e.regs.r12 → Left most_steps stay (stands fuel s e.regs.r8 e.regs.r9 (answered s x) other) most
  differs : (e.regs.r10 ≡ e.regs.r12 → ⊥) → Left most_steps stay other most
  moved : (e.regs.r10 ≡ e.regs.r12 → ⊥) → x < e.regs.r8
  from : x ≤ e.regs.r8
  within : e.steps + 150 ≤ most
  paid : (e.regs.r10 ≡ e.regs.r12 → ⊥) → e.steps + 240 ≤ most
  bytes : e.bytes ≡ m
  quiet : ports e.seen ≡ []
  r5 : e.regs.r5 ≡ b
  r13 : e.regs.r13 ≡ x
  r14 : e.regs.r14 ≡ stop
  r15 : e.regs.r15 ≡ last
  i : ℕ
  text : Cursor a n stop i e.regs.r8
  cursor : Cursor b l last k e.regs.r9

abbrev places_loop : Tree
places_loop = tree NODES

abbrev bytes_loop : Tree
bytes_loop = loop_body places_loop

module _ (C : Calls) (know : KnowsRoom ROOM C) (stay : Stay) (s : KernelState) (m : Memory) (holds : Holds s m) (a n stop : ℕ) (span : Span a n stop 1)
    (b l last : ℕ) (set : Span b l last 1) (short : l ≤ longest) where
  abbrev G : ℕ → Goal
  G to e = Through stay most_steps to e

  abbrev Inv : ℕ → Goal
  Inv k e = Head stay s m a n stop b last k e

  -- what follows the inner loop, in a turn with k places to come
  abbrev Rest : ℕ → Part
  Rest k d z u w q p = (y : ℕ) × (y < k) × Inv y (run d z u w q (by_branch p))

  module _ (k x fuel : ℕ) (place_here : Cursor a n stop k x) (enough : k ≤ fuel) where
    abbrev match : Stay
    match = answered s x

    abbrev other : Stay
    other = find_text (fuel - 1) s (following x) b

    abbrev InnerInv : ℕ → Goal
    InnerInv j e = InnerHead stay s m a n stop x b l last other j e

    inner_turn : (j : ℕ) (e : Run) → InnerInv j e → Turn C (loop_test bytes_loop) (loop_body bytes_loop) 24 (Sym C (behind_loop bytes_loop) 132 (Rest k) G) G ℕ (λ i. i) InnerInv j e
    inner_turn j e h =
        let y : ℕ = e.regs.r9 in
        let z : ℕ = e.regs.r8 in
        let few = h.within in
        let there : Holds s e.bytes = subst (Holds s) (sym h.bytes) holds in
        record {
          leave = λ ne.
              let up = h.moved ne in
              let paid = h.paid ne in
              let g = coming a n stop 1 k x span place_here (λ q. omega (arith, q, up, h.text.high)) in (
                k - 1,
                g.less,
                record {
                  fuel = fuel - 1;
                  some = omega (arith, enough);
                  most = h.most;
                  left = subst (λ r. Left most_steps stay (find_text (fuel - 1) s (following r) b) h.most) (sym h.r13) (h.differs ne);
                  within = omega arith;
                  bytes = h.bytes;
                  quiet = h.quiet;
                  r5 = h.r5;
                  r14 = h.r14;
                  r15 = h.r15;
                  cursor = subst (λ r. Cursor a n stop (k - 1) ((r + 1) % 2 ^ 32)) (sym h.r13) g.next;
                },
              );
          again = λ eq. (
            λ end.
                let bad = done_bad b l last 1 j y set h.cursor (end ∙ h.r15) (λ z. absurd (omega (arith, z))) in
                let begun = left_is stay _ _ h.most (stands_more h.fuel s z y match other (omega (arith, bad.some, h.some))) (h.same eq) in
                let l = left_unread stay s y (behind_first (h.fuel - 1) s z y match other) h.most bad.user begun in
                stops stay (bad_pointer s y) (h.most + 128) s _ l h.quiet refl there (omega arith),
            λ more.
                let g = coming b l last 1 j y set h.cursor (λ q. more (q ∙ sym h.r15)) in
                let v : ℕ = byte s.memory (place y) in
                let is : byte e.bytes (place y) ≡ v = user_byte s e.bytes there y g.user in
                let begun = left_is stay _ _ h.most (stands_more h.fuel s z y match other (omega (arith, g.some, h.some))) (h.same eq) in
                let l = left_read stay s y (behind_first (h.fuel - 1) s z y match other) h.most g.user begun in
                let behind : Stay = reads_byte s z (behind_other (h.fuel - 1) s z y match other v) in
                rw (g.here, g.sort) (
                  λ null.
                      let lz = left_is stay _ _ (h.most + 128) (ap (λ t. if t then match else behind) (eq-eqb v 0 (sym is ∙ null))) l in
                      leaves stay match (h.most + 128) s _ lz h.quiet (ap (answered s) (sym h.r13)) there (omega arith),
                  λ some.
                      let nv : v ≡ 0 → ⊥ = λ q. some (is ∙ q) in
                      let lv = left_is stay _ _ (h.most + 128) (ap (λ t. if t then match else behind) (ne_eqb v 0 nv)) l in (
                        λ end.
                            let bad = done_bad a n stop 1 h.i z span h.text (end ∙ h.r14) (λ z. absurd (omega (arith, z))) in
                            let lb = left_unread stay s z (behind_other (h.fuel - 1) s z y match other v) (h.most + 128) bad.user lv in
                            stops stay (bad_pointer s z) (h.most + 128 + 128) s _ lb h.quiet refl there (omega arith),
                        λ here.
                            let f = coming a n stop 1 h.i z span h.text (λ q. here (q ∙ sym h.r14)) in
                            let w : ℕ = byte s.memory (place z) in
                            let equal : byte e.bytes (place z) ≡ w = user_byte s e.bytes there z f.user in
                            let lw = left_read stay s z (behind_other (h.fuel - 1) s z y match other v) (h.most + 128) f.user lv in
                            let on : Stay = stands (h.fuel - 1) s (following z) (following y) match other in
                            rw (f.here, f.sort) (
                              λ null.
                                  let lz = left_is stay _ _ (h.most + 128 + 128) (ap (λ t. if t then answered s 0 else (if nat_eq w v then on else other)) (eq-eqb w 0 (sym equal ∙ null))) lw in
                                  leaves stay (answered s 0) (h.most + 128 + 128) s _ lz h.quiet refl there (omega arith),
                              λ nz.
                                  let ln = left_is stay _ _ (h.most + 128 + 128) (ap (λ t. if t then answered s 0 else (if nat_eq w v then on else other)) (ne_eqb w 0 (λ q. nz (equal ∙ q)))) lw in (
                                    j - 1,
                                    g.less,
                                    record {
                                      fuel = h.fuel - 1;
                                      some = omega (arith, h.some);
                                      most = h.most + 128 + 128;
                                      same = λ q. left_is stay _ _ (h.most + 128 + 128) (ap (λ t. if t then on else other) (eq-eqb w v (sym equal ∙ q ∙ is))) ln;
                                      differs = λ q. left_is stay _ _ (h.most + 128 + 128) (ap (λ t. if t then on else other) (ne_eqb w v (λ r. q (equal ∙ r ∙ sym is)))) ln;
                                      moved = λ q. omega (arith, h.from, f.next.count, h.text.count, f.some);
                                      from = omega (arith, h.from, f.next.count, h.text.count, f.some);
                                      within = omega arith;
                                      paid = λ q. omega arith;
                                      bytes = h.bytes;
                                      quiet = h.quiet;
                                      r5 = h.r5;
                                      r13 = h.r13;
                                      r14 = h.r14;
                                      r15 = h.r15;
                                      i = h.i - 1;
                                      text = f.next;
                                      cursor = g.next;
                                    },
                                  ),
                            ),
                      ),
                ),
          );
        }

  turn : (k : ℕ) (e : Run) → Inv k e → Turning C places_loop G Inv k e
  turn k e h =
      let x : ℕ = e.regs.r13 in
      let few = h.within in
      let some : 0 < k = omega (arith, h.cursor.high, h.cursor.count, (span.some (λ z. absurd (omega (arith, z)))).0) in
      let other : Stay = find_text (h.fuel - 1) s (following x) b in
      let now = left_is stay _ _ h.most (find_more h.fuel s x b (omega (arith, some, h.some))) h.left in
      record {
        leave = λ ne. absurd (ne refl);
        again = λ eq. while C know.fair (loop_test bytes_loop) (loop_body bytes_loop) 24 (Sym C (behind_loop bytes_loop) 132 (Rest k) G) G ℕ (λ i. i)
            (InnerInv k x h.fuel h.cursor h.some) (inner_turn k x h.fuel h.cursor h.some) l _ record {
              fuel = longest;
              some = short;
              most = h.most;
              same = λ _. subst (λ r. Left most_steps stay (stands longest s x r (answered s x) other) h.most) (sym h.r5) now;
              differs = λ q. absurd (q refl);
              moved = λ q. absurd (q refl);
              from = omega arith;
              within = omega arith;
              paid = λ q. absurd (q refl);
              bytes = h.bytes;
              quiet = h.quiet;
              r5 = h.r5;
              r13 = refl;
              r14 = h.r14;
              r15 = h.r15;
              i = k;
              text = h.cursor;
              cursor = starting b l last 1 e.regs.r5 set h.r5;
            };
      }

  loops : (e : Run) → n ≤ longest → Left most_steps stay (find_text longest s e.regs.r13 b) most_steps → e.bytes ≡ m → e.steps ≤ 1000 → ports e.seen ≡ []
      → e.regs.r13 ≡ a → e.regs.r5 ≡ b → e.regs.r14 ≡ stop → e.regs.r15 ≡ last → FromLoop C places_loop G e
  loops e enough left bytes few quiet r13 r5 r14 r15 = looped C know.fair places_loop G Inv turn n e record {
    fuel = longest;
    some = enough;
    most = most_steps;
    left = left;
    within = omega arith;
    bytes = bytes;
    quiet = quiet;
    r5 = r5;
    r14 = r14;
    r15 = r15;
    cursor = starting a n stop 1 e.regs.r13 span r13;
  }

pub serves : Serves own most_steps (call A24) STRSTR (tree NODES)
serves s d z m h =
    let C : Calls = calls kernel_words (own ++ tested_there) in
    let know : KnowsRoom ROOM C = knows_room ROOM tested_there in
    let a : ℕ = (registers_of s).r4 in
    let b : ℕ = (registers_of s).r5 in
    let small_a : a < 2 ^ 32 = h.words 4 in
    let small_b : b < 2 ^ 32 = h.words 5 in
    let rest : Stay = find_text longest s a b in
    let stay : Stay = strstr s in
    start C know.fair (tree NODES) STRSTR (λ _. ⊥) (λ to e. Through stay most_steps to e) (begun (called_with (registers_of s) d) z m) (
      λ none. through stay most_steps _ _ refl (answers most_steps s _ stay (null_first a b (answered s 0) rest none) h.holds (omega arith)),
      λ some. (
        λ none. through stay most_steps _ _ refl (answers most_steps s _ stay (null_other a b (answered s 0) rest none) h.holds (omega arith)),
        λ other.
            let l = left_is stay _ _ most_steps (no_null a b (answered s 0) rest some other) (left_all stay) in
            know.room _ _ _ _ _ _ _ small_b (λ x y p up. know.room _ _ _ _ _ _ _ small_a (λ v w o over.
            loops C know stay s m h.holds a (bytes_from a) (end_from a) (text_span a small_a) b (bytes_from b) (end_from b) (text_span b small_b) (text_short b)
            _ (text_short a) l refl (omega arith) refl refl refl refl refl)),
      ),
    )
