-- FORMAT takes a byte of the format outside of a conversion.
use Rattle.psx_flow.proofs.Kit.{◌≡◌, ℕ, ◌+◌, ◌-◌, ◌%◌, ◌^◌, ◌<◌, ◌++◌, [], ◌∷◌, refl, sym, ap, ◌∙◌, arith, byte, Calls, calls, place, kernel_words, start}
use Rattle.std.proofs.Common.{eq-eqb, ne_eqb, Option, Some, None}
use Rattle.std.specs.Prelude.{if◌then◌else◌}
use Rattle.abs_kernel.specs.Stay.{Stay, Write, Touch}
use Rattle.abs_kernel.specs.Answered.{answered}
use Rattle.abs_kernel.specs.UserBytes.{following}
use Rattle.abs_kernel.specs.Conversion.{Conversion, opened}
use Rattle.abs_kernel.specs.Printf.{takes_format_byte, print_format}
use Rattle.kern_stay.specs.Shared.{tree, tested_there}
use Rattle.kern_stay.specs.Doors.{begun}
use Rattle.kern_stay.specs.Stages.{Leads, Less, Asked}
use Rattle.kern_stay.proofs.RoomGiven.{KnowsRoom, knows_room}
use Rattle.kern_stay.proofs.Passing.{answers_last, refuses_last}
use Rattle.kern_stay.proofs.Staging.{to_door, to_stage, printed_to}
use Rattle.kern_printf.specs.Own.{own}
use Rattle.kern_printf.specs.Walking.{turns}
use Rattle.kern_printf.specs.Interfaces.{interface, Does}
use Rattle.kern_printf.specs.declared.places.TheConstants as places
use Rattle.kern_printf.specs.declared.format.TheConstants.{FORMAT_NODES}
use Rattle.kern_printf.proofs.Walks.{good, is_bad, is_read, stepped}

pub stage : Does places.FORMAT (tree FORMAT_NODES)
stage s todo bank stay e h =
    let C : Calls = calls kernel_words (own ++ tested_there) in
    let know : KnowsRoom places.ROOM C = knows_room places.ROOM tested_there in
    let asked : Asked = Less (interface s) todo in
    let x : ℕ = e.regs.r4 in
    let v : ℕ = byte e.bytes (place x) in
    let w = h.walk in
    let next : ℕ → ℕ → Option Conversion → Stay = λ t m d. print_format (h.fuel - 1) s (following x) t m d in
    let paid = h.paid in
    let to_do = h.to_do in
    start C know.fair (tree FORMAT_NODES) places.FORMAT (λ _. ⊥) (λ to f. Leads asked bank stay to f) (begun e.regs e.cop0 e.bytes) (
      λ at. to_door asked bank stay _ _ refl (refuses_last s 1 bank _ stay (is_bad s h.fuel h.taken 0 e w stay h.count None h.is at) w.holds (omega (arith, paid))),
      λ ne.
          let g = good s h.fuel h.taken 0 e w ne in
          let some = g.some in
          let enough = w.enough in
          let less : 0 < h.fuel = omega (arith, some, enough) in
          let read = is_read s h.fuel h.taken 0 e w stay h.count None h.is ne in
          rw (g.here, g.sort, w.r26) (
            λ z.
                let is : stay ≡ Touch 1 (answered s e.regs.r17) = read ∙ ap (λ y. Touch 1 (if y then answered s (h.count % 2 ^ 32) else takes_format_byte None s v h.taken h.count next)) (eq-eqb v 0 z) ∙ ap (λ c. Touch 1 (answered s c)) (sym h.r17) in
                to_door asked bank stay _ _ refl (answers_last s 1 bank _ stay is w.holds (omega (arith, paid))),
            λ nz.
                let taken : stay ≡ Touch 1 (takes_format_byte None s v h.taken h.count next) = read ∙ ap (λ y. Touch 1 (if y then answered s (h.count % 2 ^ 32) else takes_format_byte None s v h.taken h.count next)) (ne_eqb v 0 nz) in (
                  λ percent.
                      let is : stay ≡ Touch 1 (print_format (h.fuel - 1) s (following x) h.taken h.count (Some opened)) = taken ∙ ap (λ y. Touch 1 (if y then next h.taken h.count (Some opened) else Write (v % 2 ^ 8) (next h.taken (h.count + 1) None))) (eq-eqb v 0x25 percent) in
                      to_stage asked bank stay (1 ∷ []) _ (4096 + 110) _ _ refl is (omega (arith, paid)) (omega (arith, paid)) (
                        turns (h.fuel - 1) 0,
                        omega (arith, less, to_do),
                        record {
                          fuel = h.fuel - 1;
                          taken = h.taken;
                          count = h.count;
                          c = opened;
                          walk = stepped s h.fuel h.taken 0 e w 1 (omega arith) ne _ refl refl refl;
                          r17 = h.r17;
                          conversion = record { r18 = refl; r19 = refl; r20 = refl; r21 = refl; r22 = refl };
                          r23 = refl;
                          is = refl;
                          to_do = omega arith;
                          paid = omega arith;
                        },
                      ),
                  λ other.
                      let is : stay ≡ Touch 1 (Write (v % 2 ^ 8) (print_format (h.fuel - 1) s (following x) h.taken (h.count + 1) None)) = taken ∙ ap (λ y. Touch 1 (if y then next h.taken h.count (Some opened) else Write (v % 2 ^ 8) (next h.taken (h.count + 1) None))) (ne_eqb v 0x25 other) in
                      let counted = h.r17 in
                      printed_to asked bank stay (1 ∷ []) (v % 2 ^ 8) v _ 4096 _ _ refl refl is (omega (arith, paid)) (omega (arith, paid)) (
                        turns (h.fuel - 1) 0,
                        omega (arith, less, to_do),
                        record {
                          fuel = h.fuel - 1;
                          taken = h.taken;
                          count = h.count + 1;
                          walk = stepped s h.fuel h.taken 0 e w 0 (omega arith) ne _ refl refl refl;
                          r17 = omega (arith, counted);
                          is = refl;
                          to_do = omega arith;
                          paid = omega arith;
                        },
                      ),
                ),
          ),
    )
