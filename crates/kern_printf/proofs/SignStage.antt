-- SIGN writes the byte before the digits, and the zeros.
use Rattle.psx_flow.proofs.Kit.{◌≡◌, ℕ, ◌+◌, ◌-◌, ◌*◌, ◌%◌, ◌^◌, ◌++◌, List, [], false, refl, sym, ap, ◌∙◌, arith, Calls, calls, fair, kernel_words, start}
use Rattle.std.specs.Prelude.{replicate, map, None}
use Rattle.psx_cpu.specs.Words.{truth}
use Rattle.abs_kernel.specs.Stay.{Stay, Write}
use Rattle.abs_kernel.specs.Numeral.{lowest_digits}
use Rattle.abs_kernel.specs.Conversion.{spaces, byte_of_digit}
use Rattle.abs_kernel.specs.Printf.{writes, print_format}
use Rattle.kern_stay.specs.Shared.{tree, tested_there}
use Rattle.kern_stay.specs.Doors.{begun}
use Rattle.kern_stay.specs.Stages.{Asked, Leads, Less}
use Rattle.kern_stay.proofs.Staging.{to_stage, printed_to}
use Rattle.kern_printf.specs.Own.{own}
use Rattle.kern_printf.specs.declared.places.TheConstants as places
use Rattle.kern_printf.specs.declared.emission.TheConstants.{SIGN_NODES}
use Rattle.kern_printf.specs.Texts.{figure_bytes}
use Rattle.kern_printf.specs.Walking.{turns}
use Rattle.kern_printf.specs.Interfaces.{interface, Does}
use Rattle.kern_printf.proofs.Walks.{kept}
use Rattle.kern_printf.proofs.Counting.{counts_on, counts_as}
use Rattle.kern_printf.proofs.Bodies.{first_before, is_true, is_false}

pub stage : Does places.SIGN (tree SIGN_NODES)
stage s todo bank stay e h =
    let C : Calls = calls kernel_words (own ++ tested_there) in
    let asked : Asked = Less (interface s) todo in
    let has = h.has in
    let on : Stay = writes (spaces e.regs.r20) (print_format h.fuel s e.regs.r4 h.taken h.count None) in
    let ds : List ℕ = map (byte_of_digit h.letter) (lowest_digits h.digits h.base h.value) in
    start C (fair kernel_words (own ++ tested_there)) (tree SIGN_NODES) places.SIGN (λ _. ⊥) (λ to f. Leads asked bank stay to f) (begun e.regs e.cop0 e.bytes) (
      λ some.
          let is_ahead = is_true h.ahead e.regs.r15 has.r15 some in
          let one : truth h.ahead ≡ 1 = ap truth is_ahead in
          let is : stay ≡ Write (h.byte % 2 ^ 8) (writes (replicate h.filling 0x30 ++ ds) on) = h.is ∙ ap (λ a. writes (figure_bytes a h.byte h.filling h.digits h.value h.base h.letter) on) is_ahead in
          rw (h.walk.r26) (printed_to asked bank stay [] (h.byte % 2 ^ 8) e.regs.r8 (writes (replicate h.filling 0x30 ++ ds) on) bank places.SIGN _ refl (ap (λ b. b % 2 ^ 8) has.r8) is (omega (arith, h.paid, has.digits_small)) (omega (arith, h.paid, has.digits_small)) (
            turns h.fuel (0x1000 + h.filling),
            omega (arith, h.to_do, one),
            record {
              fuel = h.fuel;
              taken = h.taken;
              count = h.count;
              ahead = false;
              byte = h.byte;
              filling = h.filling;
              digits = h.digits;
              value = h.value;
              base = h.base;
              letter = h.letter;
              walk = kept s h.fuel h.taken 0 e h.walk _ refl refl refl;
              r17 = counts_on (0 + (h.filling + h.digits) + e.regs.r20) (omega (arith, one)) h.r17;
              right_small = h.right_small;
              has = record {
                r15 = refl;
                r8 = has.r8;
                r19 = has.r19;
                r10 = has.r10;
                r11 = has.r11;
                r9 = has.r9;
                r24 = has.r24;
                r25 = has.r25;
                r30 = has.r30;
                is_base = has.is_base;
                value_small = has.value_small;
                letter_small = has.letter_small;
                zeros_small = has.zeros_small;
                digits_small = has.digits_small;
              };
              is = refl;
              to_do = omega arith;
              paid = h.paid;
            },
          )),
      λ none.
          let isnt = is_false h.ahead e.regs.r15 has.r15 none in
          let nil : truth h.ahead ≡ 0 = ap truth isnt in
          let plain : stay ≡ writes (replicate h.filling 0x30 ++ ds) on = h.is ∙ ap (λ a. writes (figure_bytes a h.byte h.filling h.digits h.value h.base h.letter) on) isnt in (
            λ some.
                let n : ℕ = h.filling in
                let fewer : (e.regs.r19 + 0xFFFFFFFF) % 2 ^ 32 ≡ n - 1 = omega (arith, has.r19, some, has.zeros_small) in
                let is : stay ≡ Write 0x30 (writes (replicate (n - 1) 0x30 ++ ds) on) = plain ∙ first_before n 0x30 ds on (λ z. some (has.r19 ∙ z)) in
                rw (h.walk.r26, fewer) (printed_to asked bank stay [] 0x30 0x30 (writes (replicate (n - 1) 0x30 ++ ds) on) bank places.SIGN _ refl refl is (omega (arith, h.paid, has.digits_small)) (omega (arith, h.paid, has.digits_small)) (
                  turns h.fuel (0x1000 + (n - 1)),
                  omega (arith, h.to_do, has.r19, some),
                  record {
                    fuel = h.fuel;
                    taken = h.taken;
                    count = h.count;
                    ahead = false;
                    byte = h.byte;
                    filling = n - 1;
                    digits = h.digits;
                    value = h.value;
                    base = h.base;
                    letter = h.letter;
                    walk = kept s h.fuel h.taken 0 e h.walk _ refl refl refl;
                    r17 = counts_on (0 + (n - 1 + h.digits) + e.regs.r20) (omega (arith, nil, has.r19, some)) h.r17;
                    right_small = h.right_small;
                    has = record {
                      r15 = none;
                      r8 = has.r8;
                      r19 = refl;
                      r10 = has.r10;
                      r11 = has.r11;
                      r9 = has.r9;
                      r24 = has.r24;
                      r25 = has.r25;
                      r30 = has.r30;
                      is_base = has.is_base;
                      value_small = has.value_small;
                      letter_small = has.letter_small;
                      zeros_small = omega (arith, has.zeros_small);
                      digits_small = has.digits_small;
                    };
                    is = refl;
                    to_do = omega arith;
                    paid = h.paid;
                  },
                )),
            λ empty.
                let z : h.filling ≡ 0 = sym has.r19 ∙ empty in
                let is : stay ≡ writes ds on = plain ∙ ap (λ k. writes (replicate k 0x30 ++ ds) on) z in
                to_stage asked bank stay [] stay (4096 + 78 - 10 * h.digits) places.DIGITS _ refl refl (omega (arith, h.paid, has.digits_small)) (omega (arith, h.paid, has.digits_small)) (
                  turns h.fuel (0x800 + h.digits),
                  omega (arith, h.to_do, has.digits_small),
                  record {
                    fuel = h.fuel;
                    taken = h.taken;
                    count = h.count;
                    digits = h.digits;
                    base = h.base;
                    letter = h.letter;
                    walk = kept s h.fuel h.taken 0 e h.walk _ refl refl h.walk.r26;
                    r17 = counts_as (h.digits + e.regs.r20) (omega (arith, nil, z)) h.r17;
                    right_small = h.right_small;
                    r10 = has.r10;
                    r11 = has.r11;
                    r24 = has.r24;
                    r25 = has.r25;
                    is_base = has.is_base;
                    value_small = omega (arith, has.r9, has.value_small);
                    letter_small = has.letter_small;
                    digits_small = has.digits_small;
                    is = is ∙ ap (λ v. writes (map (byte_of_digit h.letter) (lowest_digits h.digits h.base v)) on) (sym has.r9);
                    to_do = omega arith;
                    paid = omega arith;
                  },
                ),
          ),
    )
