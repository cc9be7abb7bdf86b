-- strcat meets its stay.
use Rattle.psx_flow.proofs.Kit.{ℕ, ◌+◌, ◌%◌, ◌^◌, ◌<◌, ◌++◌, refl, sym, ap, ◌∙◌, arith, Registers, Calls, calls, kernel_words, start, Sym, ended}
use Rattle.psx_flow.proofs.Sym.{Part, by_one}
use Rattle.abs_kernel.specs.Stay.{Stay}
use Rattle.abs_kernel.specs.Answered.{registers_of, answered}
use Rattle.abs_kernel.specs.UserBytes.{longest}
use Rattle.abs_kernel.specs.Strcpy.{copy_text, closes}
use Rattle.abs_kernel.specs.Strcat.{find_end, strcat}
use Rattle.abs_kernel.specs.declared.calls.CallId.TheVariants.{A15}
use Rattle.abs_kernel.specs.Calls.{call}
use Rattle.kern_stay.specs.Room.{room}
use Rattle.kern_stay.specs.Shared.{tree, tested_there}
use Rattle.kern_stay.specs.Doors.{Through, Serves, called_with, begun, most_steps}
use Rattle.kern_stay.proofs.RoomGiven.{KnowsRoom, knows_room}
use Rattle.kern_stay.proofs.RoomLeft.{span_some, room_is_left}
use Rattle.kern_stay.proofs.Ending.{through, answers, left_all, left_is}
use Rattle.kern_stay.proofs.Looping.{looped, behind_loop}
use Rattle.kern_text.specs.Own.{own}
use Rattle.kern_text.specs.declared.places.TheConstants.{STRCAT, ROOM}
use Rattle.kern_text.specs.declared.a15_strcat.TheConstants.{NODES}
use Rattle.kern_text.proofs.A1bStrlen.{room_short}
use Rattle.kern_text.proofs.Pointers.{null_first, null_other, no_null}
use Rattle.kern_text.proofs.CopyText.{copies, longest_is}
use Rattle.kern_text.proofs.FindEnd.{turn, begin}

pub serves : Serves own most_steps (call A15) STRCAT (tree NODES)
serves s d z m h =
    let C : Calls = calls kernel_words (own ++ tested_there) in
    let know : KnowsRoom ROOM C = knows_room ROOM tested_there in
    let b : ℕ = (registers_of s).r4 in
    let a : ℕ = (registers_of s).r5 in
    let small_b : b < 2 ^ 32 = h.words 4 in
    let small_a : a < 2 ^ 32 = h.words 5 in
    let next : ℕ → Stay = λ y. copy_text longest s y a (closes b) in
    let go : Stay = find_end longest s b next in
    let K : Part = Sym C (behind_loop (tree NODES)) 0 (ended (λ _. ⊥)) (λ to e. Through (strcat s) most_steps to e) in
    let sp = span_some b (room b + 1) 1 small_b (λ e. absurd (omega (arith, e))) (omega arith) in
    -- the registers at the search, and behind it
    let c : (x y : ℕ) → Registers = λ x y. record (called_with (registers_of s) d) { r2 = b; r8 = b; r9 = room b; r10 = x; r11 = y; r13 = room a; r14 = (b + room b) % 2 ^ 32; r31 = STRCAT + 60 } in
    let behind = λ (x y v at n : ℕ). record (c x y) { r4 = v; r8 = (at + 0xFFFFFFFF) % 2 ^ 32; r6 = n } in
    start C know.fair (tree NODES) STRCAT (λ _. ⊥) (λ to e. Through (strcat s) most_steps to e) (begun (called_with (registers_of s) d) z m) (
      λ none. (
        λ o. through (strcat s) most_steps _ _ refl (answers most_steps s _ (strcat s) (null_other b a (answered s 0) go none) h.holds (omega arith)),
        λ no. absurd (no refl),
      ),
      λ ns. (
        λ none. through (strcat s) most_steps _ _ refl (answers most_steps s _ (strcat s) (null_first b a (answered s 0) go none ∙ ap (answered s) (sym none)) h.holds (omega arith)),
        λ nd.
            let l = left_is (strcat s) _ _ most_steps (no_null b a (answered s 0) go nd ns) (left_all (strcat s)) in
            know.room _ _ _ _ _ _ _ small_a (λ x y p up. know.room _ _ _ _ _ _ _ small_b (λ f g q more.
            looped C know.fair (tree NODES) _ _ (turn C (strcat s) s m h.holds (c f g) next b (room b + 1) sp K (λ v at most z q p found quiet few.
            let l = left_is (strcat s) _ _ most (ap (λ i. copy_text i s found.at a (closes b)) longest_is ∙ ap (λ y. copy_text 0x200000 s y a (closes b)) (sym found.is)) found.left in
            copies C know.fair (strcat s) s h.valid 0 most (behind f g v at 0x200000) z m q (by_one (by_one p)) quiet h.holds (omega arith) l
            (room_is_left a small_a) (λ i low up. sp.good i (omega (arith, low, found.is, found.low)) up) (sp.some (λ e. absurd (omega (arith, e)))).1
            (omega (arith, found.is, found.high)) sp.within)) (room b + 1) _
            (begin C (strcat s) s m h.holds (c f g) next b (room b + 1) sp K _ (room_short b) l refl nd refl refl (omega arith) refl))),
      ),
    )
