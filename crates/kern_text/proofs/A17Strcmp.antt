-- strcmp meets its stay.
use Rattle.psx_flow.proofs.Kit.{◌≡◌, ℕ, ◌^◌, ◌<◌, ◌++◌, refl, arith, Calls, calls, kernel_words, start}
use Rattle.std.specs.Prelude.{nat_lt}
use Rattle.psx_cpu.specs.Words.{truth}
use Rattle.abs_kernel.specs.Stay.{Stay}
use Rattle.abs_kernel.specs.Answered.{registers_of, answered}
use Rattle.abs_kernel.specs.UserBytes.{longest}
use Rattle.abs_kernel.specs.Strcmp.{compare_texts, strcmp}
use Rattle.abs_kernel.specs.declared.calls.CallId.TheVariants.{A17}
use Rattle.abs_kernel.specs.Calls.{call}
use Rattle.kern_stay.specs.Room.{room}
use Rattle.kern_stay.specs.Shared.{tree, tested_there}
use Rattle.kern_stay.specs.Doors.{Through, Serves, called_with, begun, most_steps}
use Rattle.kern_stay.proofs.RoomGiven.{KnowsRoom, knows_room, true_then, false_then}
use Rattle.kern_stay.proofs.Ending.{through, answers, left_all, left_is}
use Rattle.kern_stay.proofs.TwoCursors.{pair_first, pair_other}
use Rattle.kern_text.specs.Own.{own}
use Rattle.kern_text.specs.declared.places.TheConstants.{STRCMP, ROOM}
use Rattle.kern_text.specs.declared.a17_strcmp.TheConstants.{NODES}
use Rattle.kern_text.proofs.A1bStrlen.{room_short}
use Rattle.kern_text.proofs.A18Strncmp.{loops, null_first, null_other, none_null}

some : (n : ℕ) → n ≡ 1 → n ≡ 0 → ⊥
some n e z = absurd (omega (arith, e, z))

pub serves : Serves own most_steps (call A17) STRCMP (tree NODES)
serves s d z m h =
    let C : Calls = calls kernel_words (own ++ tested_there) in
    let know : KnowsRoom ROOM C = knows_room ROOM tested_there in
    let a : ℕ = (registers_of s).r4 in
    let b : ℕ = (registers_of s).r5 in
    let small_a : a < 2 ^ 32 = h.words 4 in
    let small_b : b < 2 ^ 32 = h.words 5 in
    let short_a = room_short a in
    let short_b = room_short b in
    let second : ℕ = truth (nat_lt (room b) (room a)) in
    let flagged = some 1 refl in
    let go : Stay = compare_texts longest s a b in
    let stay : Stay = strcmp s in
    start C know.fair (tree NODES) STRCMP (λ _. ⊥) (λ to e. Through (strcmp s) most_steps to e) (begun (called_with (registers_of s) d) z m) (
      λ none. through stay most_steps _ _ refl (answers most_steps s _ stay (null_first a b (answered s 0) go none) h.holds (omega arith)),
      λ na. (
        λ none. through stay most_steps _ _ refl (answers most_steps s _ stay (null_other a b (answered s 0) go na none) h.holds (omega arith)),
        λ nb.
            let l = left_is stay _ _ most_steps (none_null a b (answered s 0) go na nb) (left_all stay) in
            know.room _ _ _ _ _ _ _ small_b (λ x y p up. know.room _ _ _ _ _ _ _ small_a (λ f g q more. (
              λ nz.
                  let bad = pair_other a b longest 1 second small_a small_b flagged nz (omega (arith, short_b)) (true_then (room b) (room a) nz) in
                  loops C know stay s m h.holds a b longest (room b) 1 second bad _ l refl (omega arith) refl refl refl refl refl refl,
              λ nz.
                  let bad = pair_first a b longest 1 second small_a small_b flagged nz (omega (arith, short_a)) (false_then (room b) (room a) nz) in
                  loops C know stay s m h.holds a b longest (room a) 1 second bad _ l refl (omega arith) refl refl refl refl refl refl,
            ))),
      ),
    )
