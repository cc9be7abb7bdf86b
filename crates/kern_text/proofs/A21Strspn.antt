-- strspn meets its stay.
use Rattle.psx_flow.proofs.Kit.{◌≡◌, ℕ, ◌-◌, ◌^◌, ◌<◌, ◌++◌, ◌∷◌, true, refl, ap, arith, ⊎_elim, Calls, calls, kernel_words, start}
use Rattle.std.proofs.Common.{Bool}
use Rattle.std.proofs.lemmas.Bool.{cases_eq}
use Rattle.abs_kernel.specs.Stay.{Stay}
use Rattle.abs_kernel.specs.Answered.{registers_of, answered}
use Rattle.abs_kernel.specs.UserBytes.{bad_pointer, longest}
use Rattle.abs_kernel.specs.ByteSets.{skips}
use Rattle.abs_kernel.specs.Strspn.{strspn}
use Rattle.abs_kernel.specs.declared.calls.CallId.TheVariants.{A21}
use Rattle.abs_kernel.specs.Calls.{call}
use Rattle.kern_stay.specs.Shared.{tree, tested_there}
use Rattle.kern_stay.specs.Doors.{Through, Serves, called_with, begun, most_steps}
use Rattle.kern_stay.proofs.RoomGiven.{KnowsRoom, knows_room}
use Rattle.kern_stay.proofs.Ending.{through, answers, left_all, left_is}
use Rattle.kern_stay.proofs.Looping.{starting, leaves, stops}
use Rattle.kern_text.specs.SetOwn.{set_own}
use Rattle.kern_text.specs.declared.places.TheConstants.{STRSPN, ROOM, SKIP}
use Rattle.kern_text.specs.declared.skip.TheConstants.{SKIP_NODES}
use Rattle.kern_text.specs.declared.a21_strspn.TheConstants.{NODES}
use Rattle.kern_text.proofs.Pointers.{null_first, null_other, no_null}
use Rattle.kern_text.proofs.TextSpan.{bytes_from, end_from, text_span, text_short}
use Rattle.kern_text.proofs.Skipping.{skipping}

pub serves : Serves set_own most_steps (call A21) STRSPN (tree NODES)
serves s d z m h =
    let C : Calls = calls kernel_words (set_own ++ tested_there) in
    let know : KnowsRoom ROOM C = knows_room ROOM ((SKIP, tree SKIP_NODES) ∷ tested_there) in
    let a : ℕ = (registers_of s).r4 in
    let b : ℕ = (registers_of s).r5 in
    let small_a : a < 2 ^ 32 = h.words 4 in
    let small_b : b < 2 ^ 32 = h.words 5 in
    let text = text_span a small_a in
    let next : Bool → ℕ → Stay = λ ended at. answered s (at - a) in
    let rest : Stay = skips true longest s b a next in
    let stay : Stay = strspn s in
    start C know.fair (tree NODES) STRSPN (λ _. ⊥) (λ to e. Through stay most_steps to e) (begun (called_with (registers_of s) d) z m) (
      λ none. through stay most_steps _ _ refl (answers most_steps s _ stay (null_first a b (answered s 0) rest none) h.holds (omega arith)),
      λ some. (
        λ none. through stay most_steps _ _ refl (answers most_steps s _ stay (null_other a b (answered s 0) rest none) h.holds (omega arith)),
        λ other.
            let l = left_is stay _ _ most_steps (no_null a b (answered s 0) rest some other) (left_all stay) in
            know.room _ _ _ _ _ _ _ small_b (λ x y p up. know.room _ _ _ _ _ _ _ small_a (λ v w o over.
            skipping stay s m h.holds true next a (bytes_from a) (end_from a) text b (bytes_from b) (end_from b) (text_span b small_b) (text_short b)
            _ _ _ _ _ (bytes_from a) most_steps refl refl refl refl
            (starting a (bytes_from a) (end_from a) 1 a text refl) (text_short a) l (omega arith) refl
            (λ d z q p quiet g. let few = g.within in (
              λ bad. stops stay (bad_pointer s d.r8) g.most s _ (g.bad bad) quiet refl h.holds (omega arith),
              λ fine.
                  let c = g.cursor fine in
                  let l = ⊎_elim (λ (e : d.r12 ≡ 0). g.at_zero fine e) (λ (ne : d.r12 ≡ 0 → ⊥). g.at_other fine ne) (cases_eq d.r12 0) in
                  leaves stay (answered s (d.r8 - a)) g.most s _ l quiet (ap (answered s) (omega (arith, c.low, c.high, text.within, g.kept.r4))) h.holds (omega arith),
            )))),
      ),
    )
