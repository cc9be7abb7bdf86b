-- CONVERSION takes a byte of the format within a conversion.
use Rattle.psx_flow.proofs.Kit.{◌≡◌, ℕ, ◌+◌, ◌-◌, ◌%◌, ◌^◌, ◌<◌, ◌++◌, [], ◌∷◌, refl, sym, ap, ◌∙◌, arith, byte, Calls, calls, place, kernel_words, start}
use Rattle.std.proofs.Common.{eq-eqb, ne_eqb, Option, Some}
use Rattle.std.specs.Prelude.{if◌then◌else◌}
use Rattle.abs_kernel.specs.Stay.{Stay, Touch}
use Rattle.abs_kernel.specs.Answered.{answered}
use Rattle.abs_kernel.specs.UserBytes.{following}
use Rattle.abs_kernel.specs.Conversion.{Conversion, with_next}
use Rattle.abs_kernel.specs.Printf.{takes_within, print_format}
use Rattle.kern_stay.specs.Shared.{tree, tested_there}
use Rattle.kern_stay.specs.Doors.{begun}
use Rattle.kern_stay.specs.Stages.{Leads, Less, Asked}
use Rattle.kern_stay.proofs.RoomGiven.{KnowsRoom, knows_room}
use Rattle.kern_stay.proofs.Passing.{answers_last, refuses_last}
use Rattle.kern_stay.proofs.Staging.{to_door, to_stage}
use Rattle.kern_printf.specs.Own.{own}
use Rattle.kern_printf.specs.Walking.{turns}
use Rattle.kern_printf.specs.Interfaces.{interface, Does}
use Rattle.kern_printf.specs.declared.places.TheConstants as places
use Rattle.kern_printf.proofs.Walks.{good, is_bad, is_read, stepped}
use Rattle.kern_printf.specs.declared.conversion.TheConstants.{CONVERSION_NODES}
use Rattle.kern_printf.proofs.ByteTaken.{reads_at}

pub stage : Does places.CONVERSION (tree CONVERSION_NODES)
stage s todo bank stay e h =
    let C : Calls = calls kernel_words (own ++ tested_there) in
    let know : KnowsRoom places.ROOM C = knows_room places.ROOM tested_there in
    let asked : Asked = Less (interface s) todo in
    let x : ℕ = e.regs.r4 in
    let v : ℕ = byte e.bytes (place x) in
    let w = h.walk in
    let next : ℕ → ℕ → Option Conversion → Stay = λ t m d. print_format (h.fuel - 1) s (following x) t m d in
    let within : Stay = takes_within (with_next h.c.reading h.c v) h.c s v h.taken h.count next in
    let paid = h.paid in
    let to_do = h.to_do in
    start C know.fair (tree CONVERSION_NODES) places.CONVERSION (λ _. ⊥) (λ to f. Leads asked bank stay to f) (begun e.regs e.cop0 e.bytes) (
      λ at. to_door asked bank stay _ _ refl (refuses_last s 1 bank _ stay (is_bad s h.fuel h.taken 1 e w stay h.count (Some h.c) h.is at) w.holds (omega (arith, paid))),
      λ ne.
          let g = good s h.fuel h.taken 1 e w ne in
          let some = g.some in
          let enough = w.enough in
          let less : 0 < h.fuel = omega (arith, some, enough) in
          let read = is_read s h.fuel h.taken 1 e w stay h.count (Some h.c) h.is ne in
          rw (g.here, g.sort) (
            λ z.
                let is : stay ≡ Touch 1 (answered s e.regs.r17) = read ∙ ap (λ y. Touch 1 (if y then answered s (h.count % 2 ^ 32) else within)) (eq-eqb v 0 z) ∙ ap (λ c. Touch 1 (answered s c)) (sym h.r17) in
                to_door asked bank stay _ _ refl (answers_last s 1 bank _ stay is w.holds (omega (arith, paid))),
            λ nz.
                let is : stay ≡ Touch 1 within = read ∙ ap (λ y. Touch 1 (if y then answered s (h.count % 2 ^ 32) else within)) (ne_eqb v 0 nz) in
                let k = h.conversion in
                to_stage asked bank stay (1 ∷ []) within (4096 + 230) e.regs.r23 _ refl is (omega (arith, paid)) (omega (arith, paid)) (
                  turns (h.fuel - 1) 0xF50000,
                  omega (arith, less, to_do),
                  reads_at s (h.fuel - 1) h.taken h.count h.c (4096 + 230) within e.regs.r23 _ (stepped s h.fuel h.taken 1 e w 1 (omega arith) ne _ refl refl w.r26) h.r17
                      (record { r18 = k.r18; r19 = k.r19; r20 = k.r20; r21 = k.r21; r22 = k.r22 }) refl h.r23 refl (omega arith),
                ),
          ),
    )
