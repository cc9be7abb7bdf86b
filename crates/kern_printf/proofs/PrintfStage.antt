-- PRINTF begins the walk over the format.
use Rattle.psx_flow.proofs.Kit.{◌≡◌, ℕ, ◌^◌, ◌<◌, ◌++◌, [], refl, sym, ap, ◌∙◌, arith, Calls, calls, kernel_words, start}
use Rattle.std.proofs.Common.{None}
use Rattle.abs_kernel.specs.Answered.{registers_of, answered}
use Rattle.abs_kernel.specs.UserBytes.{longest}
use Rattle.abs_kernel.specs.Printf.{print_format}
use Rattle.kern_stay.specs.Shared.{tree, tested_there}
use Rattle.kern_stay.specs.Doors.{begun}
use Rattle.kern_stay.specs.Stages.{Leads, Less, Asked}
use Rattle.kern_stay.proofs.RoomGiven.{KnowsRoom, knows_room}
use Rattle.kern_stay.proofs.RoomLeft.{room_is_left}
use Rattle.kern_stay.proofs.Passing.{answers_now}
use Rattle.kern_stay.proofs.Cursor.{null, not_null}
use Rattle.kern_stay.proofs.Staging.{to_door, to_stage}
use Rattle.kern_printf.specs.Own.{own}
use Rattle.kern_printf.specs.Interfaces.{interface, Does}
use Rattle.kern_printf.specs.declared.places.TheConstants as places
use Rattle.kern_printf.specs.declared.format.TheConstants.{PRINTF_NODES}
use Rattle.kern_printf.proofs.WalkBegun.{first, at_first}

pub stage : Does places.PRINTF (tree PRINTF_NODES)
stage s todo bank stay e h =
    let C : Calls = calls kernel_words (own ++ tested_there) in
    let know : KnowsRoom places.ROOM C = knows_room places.ROOM tested_there in
    let asked : Asked = Less (interface s) todo in
    let a : ℕ = (registers_of s).r4 in
    let same = h.r4 in
    let small : a < 2 ^ 32 = h.words 4 in
    let here : e.regs.r4 < 2 ^ 32 = omega (arith, same, small) in
    let end = (room_is_left a small).within in
    let paid = h.paid in
    let to_do = h.to_do in
    start C know.fair (tree PRINTF_NODES) places.PRINTF (λ _. ⊥) (λ to f. Leads asked bank stay to f) (begun e.regs e.cop0 e.bytes) (
      λ none. to_door asked bank stay _ _ refl (answers_now s bank _ stay (h.is ∙ null a (answered s 0) (print_format longest s a 0 0 None) (sym same ∙ none)) h.holds (omega (arith, paid))),
      λ some.
          let is : stay ≡ print_format longest s e.regs.r4 0 0 None = h.is ∙ not_null a (answered s 0) (print_format longest s a 0 0 None) (λ z. some (same ∙ z)) ∙ ap (λ y. print_format longest s y 0 0 None) (sym same) in
          know.room _ _ _ _ _ _ _ here (λ x y p up. to_stage asked bank stay [] (print_format longest s e.regs.r4 0 0 None) 4096 places.FORMAT _ refl is (omega (arith, paid, up)) (omega (arith, paid, up)) (at_first s todo e h.r4 _ to_do (first s e h _ refl refl) refl refl)),
    )
