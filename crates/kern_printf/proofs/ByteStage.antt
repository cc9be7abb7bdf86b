-- BYTE stands in the place of a sign.
use Rattle.psx_flow.proofs.Kit.{◌≡◌, ℕ, ◌+◌, ◌%◌, ◌^◌, ◌++◌, inr, List, [], ◌∷◌, true, refl, ◌∙◌, arith, Calls, calls, fair, kernel_words, start}
use Rattle.std.specs.Prelude.{None, length}
use Rattle.abs_kernel.specs.Conversion.{limited, padded}
use Rattle.abs_kernel.specs.Printf.{print_format}
use Rattle.kern_stay.specs.Shared.{tree, tested_there}
use Rattle.kern_stay.specs.Doors.{begun}
use Rattle.kern_stay.specs.Stages.{Asked, Leads, Less}
use Rattle.kern_stay.proofs.Staging.{to_stage}
use Rattle.kern_printf.specs.Own.{own}
use Rattle.kern_printf.specs.declared.places.TheConstants as places
use Rattle.kern_printf.specs.declared.number.TheConstants.{BYTE_NODES}
use Rattle.kern_printf.specs.Texts.{Body, Figures, size_of, within}
use Rattle.kern_printf.specs.Walking.{turns}
use Rattle.kern_printf.specs.Interfaces.{interface, Does}
use Rattle.kern_printf.proofs.Walks.{kept}
use Rattle.kern_printf.proofs.Counting.{counts_from}
use Rattle.kern_printf.proofs.TextForms.{padded_within, padded_length, limited_small}

pub stage : Does places.BYTE (tree BYTE_NODES)
stage s todo bank stay e h =
    let C : Calls = calls kernel_words (own ++ tested_there) in
    let asked : Asked = Less (interface s) todo in
    let text : List ℕ = e.regs.r9 % 2 ^ 8 ∷ [] in
    let body : Body = Figures true e.regs.r9 0 0 e.regs.r9 16 0x41 in
    let size : size_of body ≡ length text = refl in
    let long = padded_length h.c text in
    let count : ℕ = h.count + length (padded h.c text) in
    let is : stay ≡ within h.c.left (limited h.c.width) body s (print_format h.fuel s e.regs.r4 h.taken count None) = h.is ∙ padded_within h.c text _ body s (λ rest. refl) size in
    let has = h.conversion in
    start C (fair kernel_words (own ++ tested_there)) (tree BYTE_NODES) places.BYTE (λ _. ⊥) (λ to f. Leads asked bank stay to f) (begun e.regs e.cop0 e.bytes)
    (to_stage asked bank stay [] stay (4096 + 100) places.PADDING _ refl refl (omega (arith, h.paid)) (omega (arith, h.paid)) (
      turns h.fuel 0x700000,
      omega (arith, h.to_do),
      record {
        fuel = h.fuel;
        taken = h.taken;
        count = count;
        on_left = h.c.left;
        width = limited h.c.width;
        body = body;
        walk = kept s h.fuel h.taken 0 e h.walk _ refl refl h.walk.r26;
        r17 = counts_from h.count e.regs.r17 (length (padded h.c text)) _ h.r17 (omega (arith, long));
        r18 = has.r18;
        r20 = has.r20;
        r12 = refl;
        width_small = limited_small h.c.width;
        has = record { r15 = refl; r8 = refl; r19 = refl; r10 = refl; r11 = tt; r9 = refl; r24 = h.r24; r25 = (let e = h.r25 in omega (arith, e)); r30 = refl; is_base = inr (inr refl); value_small = h.small; letter_small = omega arith; zeros_small = omega arith; digits_small = omega arith };
        is = is;
        to_do = omega arith;
        paid = omega arith;
      },
    ))
