-- strtok meets its stay.
use Rattle.psx_flow.proofs.Kit.{◌≡◌, ℕ, suc, ◌+◌, ◌-◌, ◌%◌, ◌^◌, ◌<◌, ◌≤◌, ◌++◌, List, [], ◌∷◌, true, false, refl, sym, ap, ◌∙◌, arith, Memory, put_byte, word, place, Registers, Cop0, Access, Goal, Calls, calls, Tree, Do, When, Visit, kernel_words, start, Sym, Count, ended}
use Rattle.std.proofs.Common.{zero, Bool, eq-eqb, ne_eqb}
use Rattle.std.specs.Prelude.{nat_eq, ◌||◌, if◌then◌else◌}
use Rattle.psx_base.specs.KernelState.{KernelState}
use Rattle.psx_flow.specs.Told.{ports}
use Rattle.kern_layout.specs.Valid.{Valid}
use Rattle.abs_kernel.specs.Stay.{Stay}
use Rattle.abs_kernel.specs.Answered.{registers_of, answered}
use Rattle.abs_kernel.specs.UserBytes.{bad_pointer, writes_byte, with_byte, following, longest}
use Rattle.abs_kernel.specs.ByteSets.{skips}
use Rattle.abs_kernel.specs.Strtok.{with_place, next_token, strtok}
use Rattle.abs_kernel.specs.declared.calls.CallId.TheVariants.{A23}
use Rattle.abs_kernel.specs.Calls.{call}
use Rattle.abs_kernel.proofs.Moved.{valid_moved}
use Rattle.kern_stay.specs.Shared.{tree, tested_there}
use Rattle.kern_stay.specs.Doors.{Holds, Through, Serves, called_with, begun, most_steps}
use Rattle.kern_stay.proofs.RoomGiven.{KnowsRoom, knows_room}
use Rattle.kern_stay.proofs.Holding.{holds_byte}
use Rattle.kern_stay.proofs.Ending.{through, answers, left_all, left_is, left_written}
use Rattle.kern_stay.proofs.Looping.{starting, leaves, stops}
use Rattle.kern_stay.proofs.Cursor.{coming}
use Rattle.kern_text.specs.SetOwn.{set_own}
use Rattle.kern_text.specs.declared.places.TheConstants.{STRTOK, ROOM, SKIP}
use Rattle.kern_text.specs.declared.skip.TheConstants.{SKIP_NODES}
use Rattle.kern_text.specs.declared.a23_strtok.TheConstants.{NODES}
use Rattle.kern_text.proofs.Pointers.{null_first, null_other, no_null}
use Rattle.kern_text.proofs.TextSpan.{bytes_from, end_from, text_span, text_short}
use Rattle.kern_text.proofs.HoldingPlace.{holds_place}
use Rattle.kern_text.proofs.Skipping.{skipping}

-- the listing behind so many nodes, an If with what stands in it as one
abbrev behind : ℕ → Tree → Tree
behind zero T = T
behind (suc n) (Do i rest) = behind n rest
behind (suc n) (When t a rest) = behind n rest
behind (suc n) (Visit a rest) = behind n rest
behind (suc n) T = T

-- what follows the token, and what follows the bytes before it
abbrev pub behind_token : KernelState → (start : ℕ) → Bool → ℕ → Stay
behind_token s start ended end = if ended then answered (with_place s 0) start else writes_byte s end 0 (λ t. answered (with_place t (following end)) start)

abbrev pub behind_bytes : KernelState → (set : ℕ) → Bool → ℕ → Stay
behind_bytes s set ended start = if ended then answered (with_place s 0) 0 else skips false longest s set (following start) (behind_token s start)

module _ (s : KernelState) (m : Memory) (valid : Valid s) (holds : Holds s m) where
  abbrev C : Calls
  C = calls kernel_words (set_own ++ tested_there)

  abbrev stay : Stay
  stay = strtok s

  abbrev G : ℕ → Goal
  G to e = Through stay most_steps to e

  -- where r4 has the place at which the search begins
  searches : (c : Registers) (z : Cop0) (q : List Access) (p : Count) → c.r4 < 2 ^ 32 → c.r5 < 2 ^ 32 → (c.r5 ≡ 0 → ⊥) → c.r2 ≡ 0 → ports q ≡ [] → p.steps ≤ 100
      → stay ≡ (if nat_eq c.r5 0 || nat_eq c.r4 0 then answered s 0 else next_token s c.r5 c.r4) → Sym C (behind 3 (tree NODES)) (STRTOK + 44) (ended (λ _. ⊥)) G c z m [] q p
  searches c z q p small_a small_b some none quiet few is =
      let know : KnowsRoom ROOM C = knows_room ROOM ((SKIP, tree SKIP_NODES) ∷ tested_there) in
      let a : ℕ = c.r4 in
      let b : ℕ = c.r5 in
      let n : ℕ = bytes_from a in
      let text = text_span a small_a in
      let set = text_span b small_b in (
        λ null. through stay most_steps _ _ quiet (answers most_steps s _ stay (is ∙ null_other b a (answered s 0) (next_token s b a) null ∙ ap (answered s) (sym none)) holds (omega arith)),
        λ there.
            let l = left_is stay _ _ most_steps (is ∙ no_null b a (answered s 0) (next_token s b a) some there) (left_all stay) in
            know.room _ _ _ _ _ _ _ small_b (λ x y p up. know.room _ _ _ _ _ _ _ small_a (λ v w o over.
            skipping stay s m holds true (behind_bytes s b) a n (end_from a) text b (bytes_from b) (end_from b) set (text_short b) _ _ _ _ _ n most_steps refl refl refl refl
            (starting a n (end_from a) 1 a text refl) (text_short a) l (omega arith) quiet
            (λ d z q p quiet g. let few = g.within in (
              λ bad. stops stay (bad_pointer s d.r8) g.most s _ (g.bad bad) quiet refl holds (omega arith),
              λ fine. (
                λ null. leaves stay (answered (with_place s 0) 0) g.most (with_place s 0) _ (g.at_zero fine null) quiet
                    (ap (answered (with_place s 0)) (sym (g.kept.r2 ∙ none))) (holds_place s valid m holds 0) (omega arith),
                λ other.
                    let first = coming a n (end_from a) 1 g.to_come d.r8 text (g.cursor fine) (g.more fine) in
                    let count = (g.cursor fine).count in
                    let short = text_short a in
                    skipping stay s m holds false (behind_token s d.r8) a n (end_from a) text b (bytes_from b) (end_from b) set (text_short b)
                    _ _ _ _ _ (g.to_come - 1) g.most refl g.kept.r5 g.kept.r14 g.kept.r15
                    first.next (omega (arith, count, short, (g.cursor fine).low)) (g.at_other fine other) (omega arith) quiet
                    (λ e z q p quiet i. let few = i.within in (
                      λ bad. stops stay (bad_pointer s e.r8) i.most s _ (i.bad bad) quiet refl holds (omega arith),
                      λ fine. (
                        λ null. leaves stay (answered (with_place s 0) d.r8) i.most (with_place s 0) _ (i.at_zero fine null) quiet
                            (ap (answered (with_place s 0)) (sym i.kept.r2)) (holds_place s valid m holds 0) (omega arith),
                        λ other.
                            let last = coming a n (end_from a) 1 i.to_come e.r8 text (i.cursor fine) (i.more fine) in
                            let t : KernelState = with_byte s e.r8 0 in
                            let l = left_written stay s e.r8 0 (λ t. answered (with_place t (following e.r8)) d.r8) i.most last.user (i.at_other fine other) in
                            let kept : Valid t = valid_moved s t.memory s.random s.running valid valid.running in
                            let stored : Holds t (put_byte m (place e.r8) 0) = holds_byte s valid m holds e.r8 0 last.user in
                            rw (last.here, last.sort) (
                            leaves stay (answered (with_place t (following e.r8)) d.r8) (i.most + 128) (with_place t (following e.r8)) _ l quiet
                            (ap (answered (with_place t (following e.r8))) (sym i.kept.r2))
                            (holds_place t kept (put_byte m (place e.r8) 0) stored (following e.r8)) (omega arith)
                            ),
                      ),
                    )),
              ),
            )))),
      )

pub serves : Serves set_own most_steps (call A23) STRTOK (tree NODES)
serves s d z m h =
    let C : Calls = calls kernel_words (set_own ++ tested_there) in
    let know : KnowsRoom ROOM C = knows_room ROOM ((SKIP, tree SKIP_NODES) ∷ tested_there) in
    let a : ℕ = (registers_of s).r4 in
    let b : ℕ = (registers_of s).r5 in
    let small_a : a < 2 ^ 32 = h.words 4 in
    let small_b : b < 2 ^ 32 = h.words 5 in
    let x : ℕ = word m 0xEA18 in
    let was : x ≡ s.token = h.holds.reads.variables.1.1.1.1.1.1.0 in
    let stays : ℕ → Stay = λ from. if nat_eq b 0 || nat_eq from 0 then answered s 0 else next_token s b from in
    start C know.fair (tree NODES) STRTOK (λ _. ⊥) (λ to e. Through (strtok s) most_steps to e) (begun (called_with (registers_of s) d) z m) (
      λ none. through (strtok s) most_steps _ _ refl (answers most_steps s _ (strtok s) (null_first b (if nat_eq a 0 then s.token % 2 ^ 32 else a) (answered s 0) _ none) h.holds (omega arith)),
      λ some. (
        λ null.
            let from : (x + 0) % 2 ^ 32 ≡ s.token % 2 ^ 32 = omega (arith, was) in
            searches s m h.valid h.holds _ _ _ _ (omega arith) small_b some refl refl (omega arith) (ap (λ t. stays (if t then s.token % 2 ^ 32 else a)) (eq-eqb a 0 null) ∙ ap stays (sym from)),
        λ given. searches s m h.valid h.holds _ _ _ _ small_a small_b some refl refl (omega arith) (ap (λ t. stays (if t then s.token % 2 ^ 32 else a)) (ne_eqb a 0 given)),
      ),
    )
