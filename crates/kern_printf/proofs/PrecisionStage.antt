-- PRECISION takes a digit of the precision.
use Rattle.psx_flow.proofs.Kit.{◌≡◌, ℕ, ◌+◌, ◌++◌, [], refl, ap, ◌∙◌, arith, Calls, calls, kernel_words, start}
use Rattle.std.proofs.Common.{Option, Some}
use Rattle.std.specs.Prelude.{unwrap_or, if◌then◌else◌}
use Rattle.abs_kernel.specs.Stay.{Stay}
use Rattle.abs_kernel.specs.Conversion.{Conversion, with_length, longer}
use Rattle.abs_kernel.specs.Printf.{takes_within, print_format}
use Rattle.kern_stay.specs.Shared.{tree, tested_there}
use Rattle.kern_stay.specs.Doors.{begun}
use Rattle.kern_stay.specs.Stages.{Leads, Less, Asked}
use Rattle.kern_stay.proofs.RoomGiven.{KnowsRoom, knows_room, true_then, false_then}
use Rattle.kern_stay.proofs.Staging.{to_stage}
use Rattle.kern_printf.specs.Own.{own}
use Rattle.kern_printf.specs.Interfaces.{interface, Does}
use Rattle.kern_printf.specs.declared.places.TheConstants as places
use Rattle.kern_printf.proofs.Walks.{kept}
use Rattle.kern_printf.specs.declared.conversion.TheConstants.{PRECISION_NODES}
use Rattle.kern_printf.proofs.ByteTaken.{goes_back, to_length}
use Rattle.kern_printf.proofs.DigitRead.{digit_is, is_digit_true, is_digit_false, below, above}

pub stage : Does places.PRECISION (tree PRECISION_NODES)
stage s todo bank stay e h =
    let C : Calls = calls kernel_words (own ++ tested_there) in
    let know : KnowsRoom places.ROOM C = knows_room places.ROOM tested_there in
    let asked : Asked = Less (interface s) todo in
    let b : ℕ = e.regs.r12 in
    let w = h.walk in
    let c : Conversion = h.c in
    let k = h.conversion in
    let next : ℕ → ℕ → Option Conversion → Stay = λ t m d. print_format h.fuel s e.regs.r4 t m d in
    let within : Option Conversion → Stay = λ o. takes_within o c s b h.taken h.count next in
    let paid = h.paid in
    let to_do = h.to_do in
    let read : ℕ = unwrap_or c.precision 0 in
    let more : Conversion = record c { precision = Some (longer read b) } in
    start C know.fair (tree PRECISION_NODES) places.PRECISION (λ _. ⊥) (λ to f. Leads asked bank stay to f) (begun e.regs e.cop0 e.bytes) (
      λ yes_digit.
          let d = digit_is b yes_digit in
          let is : stay ≡ next h.taken h.count (Some more) = h.is ∙ ap (λ y. within (if y then Some more else with_length c b)) (is_digit_true b d) in (
            λ z.
                to_stage asked bank stay [] _ (4096 + 110) _ _ refl is (omega (arith, paid)) (omega (arith, paid))
                (goes_back s todo h.fuel h.taken h.count more (4096 + 110) _ _ (omega (arith, to_do)) (kept s h.fuel h.taken 1 e w _ refl refl w.r26) h.r17
                (record { r18 = k.r18; r19 = k.r19; r20 = k.r20; r21 = above read e.regs.r21 b k.r21 d (false_then _ _ z); r22 = refl }) h.r23 refl (omega arith)),
            λ nz.
                to_stage asked bank stay [] _ (4096 + 110) _ _ refl is (omega (arith, paid)) (omega (arith, paid))
                (goes_back s todo h.fuel h.taken h.count more (4096 + 110) _ _ (omega (arith, to_do)) (kept s h.fuel h.taken 1 e w _ refl refl w.r26) h.r17
                (record { r18 = k.r18; r19 = k.r19; r20 = k.r20; r21 = below read e.regs.r21 b k.r21 d (true_then _ _ nz); r22 = refl }) h.r23 refl (omega arith)),
          ),
      λ not.
          let is : stay ≡ within (with_length c b) = h.is ∙ ap (λ y. within (if y then Some more else with_length c b)) (is_digit_false b not) in
          to_stage asked bank stay [] _ (4096 + 212) _ _ refl is (omega (arith, paid)) (omega (arith, paid))
          (to_length s todo h.fuel h.taken h.count c _ _ (omega (arith, to_do)) (kept s h.fuel h.taken 1 e w _ refl refl w.r26) h.r17 (record { r18 = k.r18; r19 = k.r19; r20 = k.r20; r21 = k.r21; r22 = k.r22 }) h.r23 refl),
    )
