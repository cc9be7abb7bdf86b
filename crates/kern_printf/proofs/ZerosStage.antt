-- ZEROS says how many zeros stand before the digits.
use Rattle.psx_flow.proofs.Kit.{◌≡◌, ℕ, ◌+◌, ◌-◌, ◌*◌, ◌%◌, ◌^◌, ◌++◌, List, [], refl, sym, ap, ◌∙◌, subst, arith, Run, Calls, calls, fair, kernel_words, start}
use Rattle.std.specs.Prelude.{None, length}
use Rattle.psx_base.specs.KernelState.{KernelState}
use Rattle.abs_kernel.specs.Stay.{Stay}
use Rattle.abs_kernel.specs.Numeral.{lowest_digits}
use Rattle.abs_kernel.specs.Conversion.{limited, padded}
use Rattle.abs_kernel.specs.Printf.{writes, print_format}
use Rattle.kern_stay.specs.Shared.{tree, tested_there}
use Rattle.kern_stay.specs.Doors.{begun}
use Rattle.kern_stay.specs.Stages.{Asked, Leads, Less}
use Rattle.kern_stay.proofs.RoomGiven.{true_then, false_then}
use Rattle.kern_stay.proofs.Staging.{to_stage}
use Rattle.kern_printf.specs.Own.{own}
use Rattle.kern_printf.specs.declared.places.TheConstants as places
use Rattle.kern_printf.specs.declared.number.TheConstants.{ZEROS_NODES}
use Rattle.kern_printf.specs.Texts.{Body, Figures, HasPower, figures, figure_bytes, size_of, within}
use Rattle.kern_printf.specs.Walking.{Walk, turns}
use Rattle.kern_printf.specs.Taking.{AtZeros}
use Rattle.kern_printf.specs.Writing.{CountsTo}
use Rattle.kern_printf.specs.Interfaces.{interface, Does}
use Rattle.kern_printf.proofs.Walks.{kept}
use Rattle.kern_printf.proofs.Counting.{counts_from}
use Rattle.kern_printf.proofs.DigitCount.{significant_are}
use Rattle.kern_printf.proofs.TextForms.{truth_few, padded_within, padded_length, limited_small, figures_are, figure_length}

-- with so many zeros in r19
leaves : (s : KernelState) (todo bank : ℕ) (stay : Stay) (e : Run) (h : AtZeros s todo bank stay e) (f : Run) (n : ℕ) → n ≡ e.regs.r21 - e.regs.r10 → Walk s h.fuel h.taken 0 f
    → f.regs ≡ record f.regs { r4 = e.regs.r4; r8 = e.regs.r8; r9 = e.regs.r9; r10 = e.regs.r10; r11 = e.regs.r11; r12 = ((e.regs.r10 + n) % 2 ^ 32 + e.regs.r15) % 2 ^ 32; r15 = e.regs.r15; r17 = e.regs.r17; r18 = e.regs.r18; r19 = n; r20 = e.regs.r20; r24 = e.regs.r24; r25 = e.regs.r25; r30 = places.SIGN }
    → Less (interface s) todo places.PADDING (4096 + 100 - 10 * e.regs.r10) stay f
leaves s todo bank stay e h f n is walk k =
    let digits : ℕ = e.regs.r10 in
    let text : List ℕ = figures h.negative e.regs.r21 h.base h.letter e.regs.r9 in
    let body : Body = Figures h.negative 0x2D n digits e.regs.r9 h.base h.letter in
    let counted = significant_are h.base e.regs.r9 ∙ ap (λ j. lowest_digits j h.base e.regs.r9) (sym h.r10) in
    let same : text ≡ figure_bytes h.negative 0x2D n digits e.regs.r9 h.base h.letter = figures_are h.negative e.regs.r21 n digits h.base h.letter e.regs.r9 counted is in
    let size : length text ≡ size_of body = ap length same ∙ figure_length h.negative 0x2D n digits e.regs.r9 h.base h.letter in
    let long = padded_length h.c text in
    let count : ℕ = h.count + length (padded h.c text) in
    let next : ℕ → Stay = λ n. print_format h.fuel s e.regs.r4 h.taken n None in
    let here : stay ≡ within h.c.left (limited h.c.width) body s (next count)
    = h.is ∙ padded_within h.c text (next count) body s (λ rest. ap (λ t. writes t rest) (sym same)) (sym size) in
    let r4 = ap (λ r. r.r4) k in
    let long_digits : HasPower e.regs.r10 h.base f.regs.r11 = subst (HasPower e.regs.r10 h.base) (sym (ap (λ r. r.r11) k)) h.r11 in
    let one = truth_few h.negative in (
      turns h.fuel 0x700000,
      omega (arith, h.to_do),
      record {
        fuel = h.fuel;
        taken = h.taken;
        count = count;
        on_left = h.c.left;
        width = limited h.c.width;
        body = body;
        walk = walk;
        r17 = subst (λ x. CountsTo count x (size_of body + (limited h.c.width - size_of body))) (sym (ap (λ r. r.r17) k)) (counts_from h.count e.regs.r17 (length (padded h.c text)) _ h.r17 (omega (arith, long, size)));
        r18 = ap (λ r. r.r18) k ∙ h.r18;
        r20 = ap (λ r. r.r20) k ∙ h.r20;
        r12 = (let r12 = ap (λ r. r.r12) k in omega (arith, r12, h.number.r15, one, is, h.digits_few, h.least_small));
        width_small = limited_small h.c.width;
        has = record {
          r15 = ap (λ r. r.r15) k ∙ h.number.r15;
          r8 = ap (λ r. r.r8) k ∙ h.r8;
          r19 = ap (λ r. r.r19) k;
          r10 = ap (λ r. r.r10) k;
          r11 = long_digits;
          r9 = ap (λ r. r.r9) k;
          r24 = ap (λ r. r.r24) k ∙ h.number.r24;
          r25 = (let r25 = ap (λ r. r.r25) k in omega (arith, r25, h.number.r25));
          r30 = ap (λ r. r.r30) k;
          is_base = h.number.is_base;
          value_small = h.small;
          letter_small = h.number.letter_small;
          zeros_small = omega (arith, is, h.least_small);
          digits_small = h.digits_few;
        };
        is = here ∙ ap (λ x. within h.c.left (limited h.c.width) body s (print_format h.fuel s x h.taken count None)) (sym r4);
        to_do = omega arith;
        paid = omega arith;
      },
    )

pub stage : Does places.ZEROS (tree ZEROS_NODES)
stage s todo bank stay e h =
    let C : Calls = calls kernel_words (own ++ tested_there) in
    let asked : Asked = Less (interface s) todo in
    start C (fair kernel_words (own ++ tested_there)) (tree ZEROS_NODES) places.ZEROS (λ _. ⊥) (λ to f. Leads asked bank stay to f) (begun e.regs e.cop0 e.bytes) (
      λ some.
          let lt = true_then e.regs.r10 e.regs.r21 some in
          let n : (e.regs.r21 + 2 ^ 32 - e.regs.r10) % 2 ^ 32 ≡ e.regs.r21 - e.regs.r10 = omega (arith, lt, h.least_small) in
          rw n (to_stage asked bank stay [] stay _ places.PADDING _ refl refl (omega (arith, h.paid, h.digits_few)) (omega (arith, h.paid, h.digits_few))
          (leaves s todo bank stay e h _ (e.regs.r21 - e.regs.r10) refl (kept s h.fuel h.taken 0 e h.walk _ refl refl h.walk.r26) refl)),
      λ none.
          let le = false_then e.regs.r10 e.regs.r21 none in
          to_stage asked bank stay [] stay _ places.PADDING _ refl refl (omega (arith, h.paid, h.digits_few)) (omega (arith, h.paid, h.digits_few))
          (leaves s todo bank stay e h _ 0 (omega (arith, le)) (kept s h.fuel h.taken 0 e h.walk _ refl refl h.walk.r26) refl),
    )
