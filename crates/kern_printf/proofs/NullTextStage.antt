-- NULL_TEXT gives the text that stands for one at 0.
use Rattle.psx_flow.proofs.Kit.{ℕ, ◌+◌, ◌++◌, [], refl, sym, ap, ◌∙◌, arith, Calls, calls, kernel_words, start}
use Rattle.std.proofs.Common.{Option, None}
use Rattle.abs_kernel.specs.Stay.{Stay}
use Rattle.abs_kernel.specs.Conversion.{Conversion}
use Rattle.abs_kernel.specs.Printf.{print_format}
use Rattle.kern_stay.specs.Shared.{tree, tested_there}
use Rattle.kern_stay.specs.Doors.{begun}
use Rattle.kern_stay.specs.Stages.{Leads, Less, Asked}
use Rattle.kern_stay.proofs.RoomGiven.{KnowsRoom, knows_room, true_then, false_then}
use Rattle.kern_stay.proofs.Staging.{to_stage}
use Rattle.kern_printf.specs.Own.{own}
use Rattle.kern_printf.specs.Interfaces.{interface, Does}
use Rattle.kern_printf.specs.declared.places.TheConstants as places
use Rattle.kern_printf.proofs.Walks.{kept}
use Rattle.std.specs.Prelude.{take}
use Rattle.abs_kernel.specs.Conversion.{null_text}
use Rattle.abs_kernel.specs.Printf.{writes_padded}
use Rattle.kern_printf.specs.Texts.{Null}
use Rattle.kern_printf.specs.declared.text.TheConstants.{NULL_TEXT_NODES}
use Rattle.kern_printf.proofs.TextLimits.{taken_few, taken_most, taken_full, to_padding}

pub stage : Does places.NULL_TEXT (tree NULL_TEXT_NODES)
stage s todo bank stay e h =
    let C : Calls = calls kernel_words (own ++ tested_there) in
    let know : KnowsRoom places.ROOM C = knows_room places.ROOM tested_there in
    let asked : Asked = Less (interface s) todo in
    let w = h.walk in
    let c : Conversion = h.c in
    let k = h.conversion in
    let o : Option ℕ = c.precision in
    let on : ℕ → Stay = λ n. print_format h.fuel s e.regs.r4 h.taken n None in
    let r22 = k.r22 in
    let r21 = k.r21 in
    let paid = h.paid in
    let to_do = h.to_do in
    start C know.fair (tree NULL_TEXT_NODES) places.NULL_TEXT (λ _. ⊥) (λ to f. Leads asked bank stay to f) (begun e.regs e.cop0 e.bytes) (
      λ some. (
        λ few.
            let t = taken_few o e.regs.r21 (λ z. some (r22 ∙ z)) r21 (true_then _ _ few) in
            to_stage asked bank stay [] _ (4096 + 100) places.PADDING _ refl (h.is ∙ ap (λ text. writes_padded c text h.count on) t.same) (omega (arith, paid)) (omega (arith, paid))
            (to_padding s todo (4096 + 100) h.fuel h.taken h.count c (take e.regs.r21 null_text) (Null 0 e.regs.r21) _ (omega (arith, to_do)) (kept s h.fuel h.taken 0 e w _ refl refl w.r26) h.r17 k.r18 k.r20 refl
            (record { r10 = refl; r9 = refl; r25 = refl; r30 = refl; few = (let few = t.few in omega (arith, few)) }) (λ rest. refl) (sym t.length) (omega arith)),
        λ many.
            let t = taken_most o e.regs.r21 (λ z. some (r22 ∙ z)) r21 (false_then _ _ many) in
            to_stage asked bank stay [] _ (4096 + 100) places.PADDING _ refl (h.is ∙ ap (λ text. writes_padded c text h.count on) t.same) (omega (arith, paid)) (omega (arith, paid))
            (to_padding s todo (4096 + 100) h.fuel h.taken h.count c (take 6 null_text) (Null 0 6) _ (omega (arith, to_do)) (kept s h.fuel h.taken 0 e w _ refl refl w.r26) h.r17 k.r18 k.r20 refl
            (record { r10 = refl; r9 = refl; r25 = refl; r30 = refl; few = (let few = t.few in omega (arith, few)) }) (λ rest. refl) (sym t.length) (omega arith)),
      ),
      λ none.
          let t = taken_full o (sym r22 ∙ none) in
          to_stage asked bank stay [] _ (4096 + 100) places.PADDING _ refl (h.is ∙ ap (λ text. writes_padded c text h.count on) t.same) (omega (arith, paid)) (omega (arith, paid))
          (to_padding s todo (4096 + 100) h.fuel h.taken h.count c (take 6 null_text) (Null 0 6) _ (omega (arith, to_do)) (kept s h.fuel h.taken 0 e w _ refl refl w.r26) h.r17 k.r18 k.r20 refl
          (record { r10 = refl; r9 = refl; r25 = refl; r30 = refl; few = (let few = t.few in omega (arith, few)) }) (λ rest. refl) (sym t.length) (omega arith)),
    )
