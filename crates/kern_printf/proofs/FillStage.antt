-- FILL says how many digits a number is to have at least.
use Rattle.psx_flow.proofs.Kit.{◌+◌, ◌-◌, ◌%◌, ◌^◌, ◌++◌, [], refl, arith, Calls, calls, kernel_words, start}
use Rattle.std.specs.Prelude.{unwrap_or}
use Rattle.abs_kernel.specs.Conversion.{Conversion}
use Rattle.kern_stay.specs.Shared.{tree, tested_there}
use Rattle.kern_stay.specs.Doors.{begun}
use Rattle.kern_stay.specs.Stages.{Leads, Less, Asked}
use Rattle.kern_stay.proofs.RoomGiven.{KnowsRoom, knows_room, true_then, false_then}
use Rattle.kern_stay.proofs.Staging.{to_stage}
use Rattle.kern_printf.specs.Own.{own}
use Rattle.kern_printf.specs.Interfaces.{interface, Does}
use Rattle.kern_printf.specs.declared.places.TheConstants as places
use Rattle.kern_printf.proofs.Walks.{kept}
use Rattle.kern_printf.specs.declared.number.TheConstants.{FILL_NODES}
use Rattle.kern_printf.proofs.TextLimits.{capped}
use Rattle.kern_printf.proofs.Bodies.{is_true, is_false}
use Rattle.kern_printf.proofs.NumberParts.{none_is, least_filled, least_short, least_plain, least_left, least_told, to_count}

pub stage : Does places.FILL (tree FILL_NODES)
stage s todo bank stay e h =
    let C : Calls = calls kernel_words (own ++ tested_there) in
    let know : KnowsRoom places.ROOM C = knows_room places.ROOM tested_there in
    let asked : Asked = Less (interface s) todo in
    let w = h.walk in
    let c : Conversion = h.c in
    let k = h.conversion in
    let n = h.number in
    let width = k.r20 in
    let few = capped c.width in
    let told = k.r21 in
    let most = capped (unwrap_or c.precision 0) in
    let r15 = n.r15 in
    let paid = h.paid in
    let to_do = h.to_do in
    start C know.fair (tree FILL_NODES) places.FILL (λ _. ⊥) (λ to f. Leads asked bank stay to f) (begun e.regs e.cop0 e.bytes) (
      λ unsaid.
          let none = none_is c.precision e.regs.r22 k.r22 unsaid in (
            λ right.
                let not_left = is_false c.left e.regs.r18 k.r18 right in (
                  λ filled.
                      let zeros = is_true c.zeros e.regs.r19 k.r19 filled in (
                        λ wide.
                            let less = true_then _ _ wide in
                            to_stage asked bank stay [] stay (4096 + 129) places.COUNT _ refl refl (omega (arith, paid)) (omega (arith, paid))
                            (to_count s todo h.fuel h.taken h.count c h.negative h.base h.letter stay _ to_do (kept s h.fuel h.taken 0 e w _ refl refl w.r26) h.r17 k.r18 k.r20
                            (record { r15 = n.r15; r24 = n.r24; r25 = n.r25; is_base = n.is_base; letter_small = n.letter_small }) h.r8 h.small refl refl refl
                            (omega (arith, less, width, few)) (least_filled c h.negative ((e.regs.r20 + 2 ^ 32 - e.regs.r15) % 2 ^ 32) zeros not_left none (omega (arith, less, width, few, r15)) (omega (arith, less, width, few))) h.is),
                        λ narrow.
                            let more = false_then _ _ narrow in
                            to_stage asked bank stay [] stay (4096 + 129) places.COUNT _ refl refl (omega (arith, paid)) (omega (arith, paid))
                            (to_count s todo h.fuel h.taken h.count c h.negative h.base h.letter stay _ to_do (kept s h.fuel h.taken 0 e w _ refl refl w.r26) h.r17 k.r18 k.r20
                            (record { r15 = n.r15; r24 = n.r24; r25 = n.r25; is_base = n.is_base; letter_small = n.letter_small }) h.r8 h.small refl refl refl
                            (omega arith) (least_short c h.negative none (omega (arith, more, width, r15))) h.is),
                      ),
                  λ plain.
                      to_stage asked bank stay [] stay (4096 + 129) places.COUNT _ refl refl (omega (arith, paid)) (omega (arith, paid))
                      (to_count s todo h.fuel h.taken h.count c h.negative h.base h.letter stay _ to_do (kept s h.fuel h.taken 0 e w _ refl refl w.r26) h.r17 k.r18 k.r20
                      (record { r15 = n.r15; r24 = n.r24; r25 = n.r25; is_base = n.is_base; letter_small = n.letter_small }) h.r8 h.small refl refl refl
                      (omega arith) (least_plain c h.negative (is_false c.zeros e.regs.r19 k.r19 plain) none) h.is),
                ),
            λ on_left.
                to_stage asked bank stay [] stay (4096 + 129) places.COUNT _ refl refl (omega (arith, paid)) (omega (arith, paid))
                (to_count s todo h.fuel h.taken h.count c h.negative h.base h.letter stay _ to_do (kept s h.fuel h.taken 0 e w _ refl refl w.r26) h.r17 k.r18 k.r20
                (record { r15 = n.r15; r24 = n.r24; r25 = n.r25; is_base = n.is_base; letter_small = n.letter_small }) h.r8 h.small refl refl refl
                (omega arith) (least_left c h.negative (is_true c.left e.regs.r18 k.r18 on_left) none) h.is),
          ),
      λ said.
          to_stage asked bank stay [] stay (4096 + 129) places.COUNT _ refl refl (omega (arith, paid)) (omega (arith, paid))
          (to_count s todo h.fuel h.taken h.count c h.negative h.base h.letter stay _ to_do (kept s h.fuel h.taken 0 e w _ refl refl w.r26) h.r17 k.r18 k.r20
          (record { r15 = n.r15; r24 = n.r24; r25 = n.r25; is_base = n.is_base; letter_small = n.letter_small }) h.r8 h.small refl refl refl
          (omega (arith, told, most)) (least_told c h.negative e.regs.r22 e.regs.r21 k.r22 said k.r21) h.is),
    )
