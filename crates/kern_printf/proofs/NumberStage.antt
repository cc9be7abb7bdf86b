-- NUMBER takes the sign of a number.
use Rattle.psx_flow.proofs.Kit.{◌≡◌, ℕ, ◌+◌, ◌-◌, ◌%◌, ◌^◌, ◌<◌, ◌≤◌, ◌++◌, [], refl, ap, ◌∙◌, arith, true, false, Calls, calls, kernel_words, start}
use Rattle.std.proofs.Common.{None, ⊎_elim}
use Rattle.std.proofs.lemmas.Bool.{cases_lt}
use Rattle.abs_kernel.specs.Stay.{Stay}
use Rattle.abs_kernel.specs.Conversion.{Conversion}
use Rattle.abs_kernel.specs.Printf.{print_format}
use Rattle.kern_stay.specs.Shared.{tree, tested_there}
use Rattle.kern_stay.specs.Doors.{begun}
use Rattle.kern_stay.specs.Stages.{Leads, Less, Asked}
use Rattle.kern_stay.proofs.RoomGiven.{KnowsRoom, knows_room}
use Rattle.kern_stay.proofs.Staging.{to_stage}
use Rattle.kern_printf.specs.Own.{own}
use Rattle.kern_printf.specs.Walking.{turns}
use Rattle.kern_printf.specs.Interfaces.{interface, Does}
use Rattle.kern_printf.specs.declared.places.TheConstants as places
use Rattle.kern_printf.proofs.Walks.{kept}
use Rattle.std.specs.Prelude.{◌/◌}
use Rattle.abs_kernel.specs.Conversion.{padded}
use Rattle.kern_printf.specs.Texts.{least, figures}
use Rattle.kern_printf.specs.Taking.{writes_all}
use Rattle.kern_printf.specs.declared.number.TheConstants.{NUMBER_NODES}
use Rattle.kern_printf.proofs.NumberParts.{parts, has_minus, has_none, no_sign}

pub stage : Does places.NUMBER (tree NUMBER_NODES)
stage s todo bank stay e h =
    let C : Calls = calls kernel_words (own ++ tested_there) in
    let know : KnowsRoom places.ROOM C = knows_room places.ROOM tested_there in
    let asked : Asked = Less (interface s) todo in
    let w = h.walk in
    let c : Conversion = h.c in
    let k = h.conversion in
    let n = h.number in
    let on : ℕ → Stay = λ n. print_format h.fuel s e.regs.r4 h.taken n None in
    let small = h.small in
    let paid = h.paid in
    let to_do = h.to_do in
    start C know.fair (tree NUMBER_NODES) places.NUMBER (λ _. ⊥) (λ to f. Leads asked bank stay to f) (begun e.regs e.cop0 e.bytes) (
      λ signed. (
        λ minus.
            let high : 2 ^ 31 ≤ e.regs.r9 = high_of e.regs.r9 minus in
            let turned : 2 ^ 32 - e.regs.r9 ≡ (2 ^ 32 - e.regs.r9) % 2 ^ 32 = omega (arith, high, small) in
            let sign = has_minus h.with_sign e.regs.r15 e.regs.r9 n.r15 signed high in
            let is : stay ≡ writes_all (padded c (figures true (least c true) h.base h.letter ((0 + 2 ^ 32 - e.regs.r9) % 2 ^ 32))) h.count on = h.is ∙ ap (λ text. writes_all text h.count on) (parts c h.with_sign h.base h.letter e.regs.r9 true sign) ∙ ap (λ v. writes_all (padded c (figures true (least c true) h.base h.letter v)) h.count on) turned in
            to_stage asked bank stay [] _ (4096 + 145) places.FILL _ refl is (omega (arith, paid)) (omega (arith, paid)) (
              turns h.fuel 0xEF0000,
              omega (arith, to_do),
              record {
                fuel = h.fuel;
                taken = h.taken;
                count = h.count;
                c = c;
                negative = true;
                base = h.base;
                letter = h.letter;
                walk = kept s h.fuel h.taken 0 e w _ refl refl w.r26;
                r17 = h.r17;
                conversion = (record { r18 = k.r18; r19 = k.r19; r20 = k.r20; r21 = k.r21; r22 = k.r22 });
                number = (record { r15 = one_of e.regs.r9 small high; r24 = n.r24; r25 = n.r25; is_base = n.is_base; letter_small = n.letter_small });
                r8 = refl;
                small = omega (arith, small);
                is = refl;
                to_do = omega arith;
                paid = omega arith;
              },
            ),
        λ none.
            let low : e.regs.r9 < 2 ^ 31 = low_of e.regs.r9 none in
            let sign = has_none h.with_sign e.regs.r9 low in
            let is : stay ≡ writes_all (padded c (figures false (least c false) h.base h.letter (e.regs.r9))) h.count on = h.is ∙ ap (λ text. writes_all text h.count on) (parts c h.with_sign h.base h.letter e.regs.r9 false sign) in
            to_stage asked bank stay [] _ (4096 + 145) places.FILL _ refl is (omega (arith, paid)) (omega (arith, paid)) (
              turns h.fuel 0xEF0000,
              omega (arith, to_do),
              record {
                fuel = h.fuel;
                taken = h.taken;
                count = h.count;
                c = c;
                negative = false;
                base = h.base;
                letter = h.letter;
                walk = kept s h.fuel h.taken 0 e w _ refl refl w.r26;
                r17 = h.r17;
                conversion = (record { r18 = k.r18; r19 = k.r19; r20 = k.r20; r21 = k.r21; r22 = k.r22 });
                number = (record { r15 = none; r24 = n.r24; r25 = n.r25; is_base = n.is_base; letter_small = n.letter_small });
                r8 = refl;
                small = omega (arith, small);
                is = refl;
                to_do = omega arith;
                paid = omega arith;
              },
            ),
      ),
      λ unsigned.
          let sign = no_sign h.with_sign e.regs.r15 e.regs.r9 n.r15 unsigned in
          let is : stay ≡ writes_all (padded c (figures false (least c false) h.base h.letter (e.regs.r9))) h.count on = h.is ∙ ap (λ text. writes_all text h.count on) (parts c h.with_sign h.base h.letter e.regs.r9 false sign) in
          to_stage asked bank stay [] _ (4096 + 145) places.FILL _ refl is (omega (arith, paid)) (omega (arith, paid)) (
            turns h.fuel 0xEF0000,
            omega (arith, to_do),
            record {
              fuel = h.fuel;
              taken = h.taken;
              count = h.count;
              c = c;
              negative = false;
              base = h.base;
              letter = h.letter;
              walk = kept s h.fuel h.taken 0 e w _ refl refl w.r26;
              r17 = h.r17;
              conversion = (record { r18 = k.r18; r19 = k.r19; r20 = k.r20; r21 = k.r21; r22 = k.r22 });
              number = (record { r15 = unsigned; r24 = n.r24; r25 = n.r25; is_base = n.is_base; letter_small = n.letter_small });
              r8 = refl;
              small = omega (arith, small);
              is = refl;
              to_do = omega arith;
              paid = omega arith;
            },
          ),
    )
  where
    high_of : (v : ℕ) → (v / 2 ^ 31 ≡ 0 → ⊥) → 2 ^ 31 ≤ v
    high_of v ne = ⊎_elim (λ l. absurd (ne (omega (arith, l)))) (λ g. g) (cases_lt v (2 ^ 31))

    one_of : (v : ℕ) → v < 2 ^ 32 → 2 ^ 31 ≤ v → v / 2 ^ 31 ≡ 1
    one_of v small high = omega (arith, small, high)

    low_of : (v : ℕ) → v / 2 ^ 31 ≡ 0 → v < 2 ^ 31
    low_of v z = omega (arith, z)
