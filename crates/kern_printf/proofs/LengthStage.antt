-- LENGTH takes an `l`.
use Rattle.psx_flow.proofs.Kit.{◌≡◌, ℕ, ◌+◌, ◌++◌, [], refl, ap, ◌∙◌, arith, Calls, calls, kernel_words, start}
use Rattle.std.proofs.Common.{eq-eqb, ne_eqb, Option, Some, None}
use Rattle.std.specs.Prelude.{if◌then◌else◌}
use Rattle.abs_kernel.specs.Stay.{Stay}
use Rattle.abs_kernel.specs.Conversion.{Conversion, Lengths}
use Rattle.abs_kernel.specs.Printf.{takes_within, print_format}
use Rattle.kern_stay.specs.Shared.{tree, tested_there}
use Rattle.kern_stay.specs.Doors.{begun}
use Rattle.kern_stay.specs.Stages.{Leads, Less, Asked}
use Rattle.kern_stay.proofs.RoomGiven.{KnowsRoom, knows_room}
use Rattle.kern_stay.proofs.Staging.{to_stage}
use Rattle.kern_printf.specs.Own.{own}
use Rattle.kern_printf.specs.Walking.{turns}
use Rattle.kern_printf.specs.Interfaces.{interface, Does}
use Rattle.kern_printf.specs.declared.places.TheConstants as places
use Rattle.kern_printf.proofs.Walks.{kept}
use Rattle.kern_printf.specs.declared.conversion.TheConstants.{LENGTH_NODES}
use Rattle.kern_printf.proofs.ByteTaken.{goes_back}

pub stage : Does places.LENGTH (tree LENGTH_NODES)
stage s todo bank stay e h =
    let C : Calls = calls kernel_words (own ++ tested_there) in
    let know : KnowsRoom places.ROOM C = knows_room places.ROOM tested_there in
    let asked : Asked = Less (interface s) todo in
    let b : ℕ = e.regs.r12 in
    let w = h.walk in
    let c : Conversion = h.c in
    let k = h.conversion in
    let next : ℕ → ℕ → Option Conversion → Stay = λ t m d. print_format h.fuel s e.regs.r4 t m d in
    let within : Option Conversion → Stay = λ o. takes_within o c s b h.taken h.count next in
    let paid = h.paid in
    let to_do = h.to_do in
    let read : Conversion = record c { reading = Lengths } in
    start C know.fair (tree LENGTH_NODES) places.LENGTH (λ _. ⊥) (λ to f. Leads asked bank stay to f) (begun e.regs e.cop0 e.bytes) (
      λ at.
          let is : stay ≡ next h.taken h.count (Some read) = h.is ∙ ap (λ y. within (if y then Some read else None)) (eq-eqb b 0x6C at) in
          to_stage asked bank stay [] _ (4096 + 110) _ _ refl is (omega (arith, paid)) (omega (arith, paid))
          (goes_back s todo h.fuel h.taken h.count read (4096 + 110) _ _ (omega (arith, to_do)) (kept s h.fuel h.taken 1 e w _ refl refl w.r26) h.r17 (record { r18 = k.r18; r19 = k.r19; r20 = k.r20; r21 = k.r21; r22 = k.r22 }) refl refl (omega arith)),
      λ other.
          let is : stay ≡ within None = h.is ∙ ap (λ y. within (if y then Some read else None)) (ne_eqb b 0x6C other) in
          to_stage asked bank stay [] _ (4096 + 207) _ _ refl is (omega (arith, paid)) (omega (arith, paid)) (
            turns h.fuel 0xF20000,
            omega (arith, to_do),
            record {
              fuel = h.fuel;
              taken = h.taken;
              count = h.count;
              c = c;
              walk = kept s h.fuel h.taken 1 e w _ refl refl w.r26;
              r17 = h.r17;
              conversion = record { r18 = k.r18; r19 = k.r19; r20 = k.r20; r21 = k.r21; r22 = k.r22 };
              is = refl;
              to_do = omega arith;
              paid = omega arith;
            },
          ),
    )
