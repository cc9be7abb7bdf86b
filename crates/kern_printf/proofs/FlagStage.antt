-- FLAG takes a flag.
use Rattle.psx_flow.proofs.Kit.{◌≡◌, ℕ, ◌+◌, ◌++◌, [], refl, ap, ◌∙◌, arith, true, Calls, calls, kernel_words, start}
use Rattle.std.proofs.Common.{eq-eqb, ne_eqb, Option, Some}
use Rattle.std.specs.Prelude.{nat_eq, if◌then◌else◌}
use Rattle.abs_kernel.specs.Stay.{Stay}
use Rattle.abs_kernel.specs.Conversion.{Conversion, with_width}
use Rattle.abs_kernel.specs.Printf.{takes_within, print_format}
use Rattle.kern_stay.specs.Shared.{tree, tested_there}
use Rattle.kern_stay.specs.Doors.{begun}
use Rattle.kern_stay.specs.Stages.{Leads, Less, Asked}
use Rattle.kern_stay.proofs.RoomGiven.{KnowsRoom, knows_room}
use Rattle.kern_stay.proofs.Staging.{to_stage}
use Rattle.kern_printf.specs.Own.{own}
use Rattle.kern_printf.specs.Walking.{turns}
use Rattle.kern_printf.specs.Interfaces.{interface, Does}
use Rattle.kern_printf.specs.declared.places.TheConstants as places
use Rattle.kern_printf.proofs.Walks.{kept}
use Rattle.kern_printf.specs.declared.conversion.TheConstants.{FLAG_NODES}
use Rattle.kern_printf.proofs.ByteTaken.{goes_back}

pub stage : Does places.FLAG (tree FLAG_NODES)
stage s todo bank stay e h =
    let C : Calls = calls kernel_words (own ++ tested_there) in
    let know : KnowsRoom places.ROOM C = knows_room places.ROOM tested_there in
    let asked : Asked = Less (interface s) todo in
    let b : ℕ = e.regs.r12 in
    let w = h.walk in
    let c : Conversion = h.c in
    let k = h.conversion in
    let next : ℕ → ℕ → Option Conversion → Stay = λ t m d. print_format h.fuel s e.regs.r4 t m d in
    let within : Option Conversion → Stay = λ o. takes_within o c s b h.taken h.count next in
    let paid = h.paid in
    let to_do = h.to_do in
    let minus : Conversion = record c { left = true } in
    let zero : Conversion = record c { zeros = true } in
    start C know.fair (tree FLAG_NODES) places.FLAG (λ _. ⊥) (λ to f. Leads asked bank stay to f) (begun e.regs e.cop0 e.bytes) (
      λ at.
          let is : stay ≡ next h.taken h.count (Some minus) = h.is ∙ ap (λ y. within (if y then Some minus else if nat_eq b 0x30 then Some zero else with_width c b)) (eq-eqb b 0x2D at) in
          to_stage asked bank stay [] _ (4096 + 110) _ _ refl is (omega (arith, paid)) (omega (arith, paid))
          (goes_back s todo h.fuel h.taken h.count minus (4096 + 110) _ _ (omega (arith, to_do)) (kept s h.fuel h.taken 1 e w _ refl refl w.r26) h.r17 (record { r18 = refl; r19 = k.r19; r20 = k.r20; r21 = k.r21; r22 = k.r22 }) h.r23 refl (omega arith)),
      λ not.
          let isnt : stay ≡ within (if nat_eq b 0x30 then Some zero else with_width c b) = h.is ∙ ap (λ y. within (if y then Some minus else if nat_eq b 0x30 then Some zero else with_width c b)) (ne_eqb b 0x2D not) in (
            λ at.
                let is : stay ≡ next h.taken h.count (Some zero) = isnt ∙ ap (λ y. within (if y then Some zero else with_width c b)) (eq-eqb b 0x30 at) in
                to_stage asked bank stay [] _ (4096 + 110) _ _ refl is (omega (arith, paid)) (omega (arith, paid))
                (goes_back s todo h.fuel h.taken h.count zero (4096 + 110) _ _ (omega (arith, to_do)) (kept s h.fuel h.taken 1 e w _ refl refl w.r26) h.r17 (record { r18 = k.r18; r19 = refl; r20 = k.r20; r21 = k.r21; r22 = k.r22 }) h.r23 refl (omega arith)),
            λ other.
                let is : stay ≡ within (with_width c b) = isnt ∙ ap (λ y. within (if y then Some zero else with_width c b)) (ne_eqb b 0x30 other) in
                to_stage asked bank stay [] _ (4096 + 222) _ _ refl is (omega (arith, paid)) (omega (arith, paid)) (
                  turns h.fuel 0xF40000,
                  omega (arith, to_do),
                  record {
                    fuel = h.fuel;
                    taken = h.taken;
                    count = h.count;
                    c = c;
                    walk = kept s h.fuel h.taken 1 e w _ refl refl w.r26;
                    r17 = h.r17;
                    conversion = record { r18 = k.r18; r19 = k.r19; r20 = k.r20; r21 = k.r21; r22 = k.r22 };
                    r23 = h.r23;
                    is = refl;
                    to_do = omega arith;
                    paid = omega arith;
                  },
                ),
          ),
    )
