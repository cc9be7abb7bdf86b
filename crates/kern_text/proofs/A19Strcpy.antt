-- strcpy meets its stay.
use Rattle.psx_flow.proofs.Sym.{by_one}
use Rattle.psx_flow.proofs.Kit.{ℕ, ◌+◌, ◌%◌, ◌^◌, ◌<◌, ◌++◌, refl, sym, ap, ◌∙◌, arith, [], Registers, Calls, calls, kernel_words, start}
use Rattle.abs_kernel.specs.Stay.{Stay}
use Rattle.abs_kernel.specs.Answered.{registers_of, answered}
use Rattle.abs_kernel.specs.UserBytes.{longest}
use Rattle.abs_kernel.specs.Strcpy.{copy_text, closes, strcpy}
use Rattle.abs_kernel.specs.declared.calls.CallId.TheVariants.{A19}
use Rattle.abs_kernel.specs.Calls.{call}
use Rattle.kern_stay.specs.Room.{room}
use Rattle.kern_stay.specs.Shared.{tree, tested_there}
use Rattle.kern_stay.specs.Doors.{Through, Serves, called_with, begun, most_steps}
use Rattle.kern_stay.proofs.RoomGiven.{KnowsRoom, knows_room}
use Rattle.kern_stay.proofs.RoomLeft.{span_some, room_is_left}
use Rattle.kern_stay.proofs.Ending.{through, answers, left_all, left_is}
use Rattle.kern_text.specs.Own.{own}
use Rattle.kern_text.specs.declared.places.TheConstants.{STRCPY, ROOM}
use Rattle.kern_text.specs.declared.a19_strcpy.TheConstants.{NODES}
use Rattle.kern_text.proofs.Pointers.{null_first, null_other, no_null}
use Rattle.kern_text.proofs.CopyText.{copies, longest_is}

pub serves : Serves own most_steps (call A19) STRCPY (tree NODES)
serves s d z m h =
    let C : Calls = calls kernel_words (own ++ tested_there) in
    let know : KnowsRoom ROOM C = knows_room ROOM tested_there in
    let b : ℕ = (registers_of s).r4 in
    let a : ℕ = (registers_of s).r5 in
    let small_b : b < 2 ^ 32 = h.words 4 in
    let small_a : a < 2 ^ 32 = h.words 5 in
    let go : Stay = copy_text longest s b a (closes b) in
    start C know.fair (tree NODES) STRCPY (λ _. ⊥) (λ to e. Through (strcpy s) most_steps to e) (begun (called_with (registers_of s) d) z m) (
      λ none. (
        λ o. through (strcpy s) most_steps _ _ refl (answers most_steps s _ (strcpy s) (null_other b a (answered s 0) go none) h.holds (omega arith)),
        λ no. absurd (no refl),
      ),
      λ ns. (
        λ none. through (strcpy s) most_steps _ _ refl (answers most_steps s _ (strcpy s) (null_first b a (answered s 0) go none ∙ ap (answered s) (sym none)) h.holds (omega arith)),
        λ nd.
            let l = left_is (strcpy s) _ _ most_steps (no_null b a (answered s 0) go nd ns ∙ ap (λ n. copy_text n s b a (closes b)) longest_is) (left_all (strcpy s)) in
            let sp = span_some b (room b + 1) 1 small_b (λ e. absurd (omega (arith, e))) (omega arith) in
            let c : (x y : ℕ) → Registers = λ x y. record
            (called_with (registers_of s) d) { r2 = b; r6 = 0x200000; r8 = b; r9 = room b; r10 = x; r11 = y; r13 = room a; r14 = (b + room b) % 2 ^ 32; r31 = STRCPY + 60 } in
            know.room _ _ _ _ _ _ _ small_a (λ x y p up. know.room _ _ _ _ _ _ _ small_b (λ f g q more.
            copies C know.fair (strcpy s) s h.valid 0 most_steps (c f g) z m [] (by_one (by_one q)) refl h.holds (omega arith) l (room_is_left a small_a) sp.good
            (sp.some (λ e. absurd (omega (arith, e)))).1 sp.low sp.within)),
      ),
    )
