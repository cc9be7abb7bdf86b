-- COUNT counts the digits of a number.
use Rattle.psx_flow.proofs.Kit.{◌≡◌, ℕ, suc, ◌+◌, ◌-◌, ◌*◌, ◌%◌, ◌^◌, ◌<◌, ◌≤◌, ◌++◌, inr, [], refl, sym, ap, ◌∙◌, subst, arith, ⊎_elim, Calls, calls, fair, kernel_words, start}
use Rattle.std.specs.Prelude.{length}
use Rattle.std.proofs.lemmas.Bool.{cases_lt}
use Rattle.std.proofs.Math.Nat.{pow-le-pow_left, pow-le-pow_right, pow-succ'}
use Rattle.abs_kernel.proofs.Numerals.{lowest_length}
use Rattle.kern_stay.specs.Shared.{tree, tested_there}
use Rattle.kern_stay.specs.Doors.{begun}
use Rattle.kern_stay.specs.Stages.{Asked, Leads, Less}
use Rattle.kern_stay.proofs.RoomGiven.{true_then, false_then}
use Rattle.kern_stay.proofs.Staging.{to_stage}
use Rattle.kern_printf.specs.Own.{own}
use Rattle.kern_printf.specs.declared.places.TheConstants as places
use Rattle.kern_printf.specs.declared.number.TheConstants.{COUNT_NODES}
use Rattle.kern_printf.specs.Texts.{HasPower}
use Rattle.kern_printf.specs.Walking.{turns}
use Rattle.kern_printf.specs.Interfaces.{interface, Does}
use Rattle.kern_printf.proofs.Walks.{kept}
use Rattle.kern_printf.proofs.DigitCount.{base_some, base_low, power_some, quotient_is, divided, power_within, power_beyond, digits_of, digits_of_0}

-- a power that isn't above a word is one of the first 32
few_turns : (j base v : ℕ) → 2 ≤ base → base ^ j ≤ v → v < 2 ^ 32 → j ≤ 31
few_turns j base v two le small =
    ⊎_elim (λ lt. omega (arith, lt)) (λ ge. absurd (let p = pow-le-pow_left two j in let some : 0 < 2 = omega arith in let q : 2 ^ 32 ≤ 2 ^ j = pow-le-pow_right some ge in omega (arith, p, q, le, small))) (cases_lt j 32)

-- one product more is the next power
next_power : (j base v : ℕ) → base ^ suc j ≤ v → v < 2 ^ 32 → base ^ j * base % 2 ^ 32 ≡ base ^ suc j
next_power j base v le small = let p = pow-succ' base j in let c = commuted base (base ^ j) in omega (arith, p, c, le, small)
  where
    commuted : (a b : ℕ) → a * b ≡ b * a
    commuted a b = grind arith

pub stage : Does places.COUNT (tree COUNT_NODES)
stage s todo bank stay e h =
    let C : Calls = calls kernel_words (own ++ tested_there) in
    let asked : Asked = Less (interface s) todo in
    let v : ℕ = e.regs.r9 in
    let q : ℕ = e.regs.r12 in
    let n : ℕ = h.turned in
    let base : ℕ = h.base in
    let low : 2 ≤ base = base_low base h.number.is_base in
    let some : 0 < base = base_some base h.number.is_base in
    start C (fair kernel_words (own ++ tested_there)) (tree COUNT_NODES) places.COUNT (λ _. ⊥) (λ to f. Leads asked bank stay to f) (begun e.regs e.cop0 e.bytes) (
      λ above.
          let le : base ≤ q = (let g = false_then q e.regs.r24 above in omega (arith, g, h.number.r24)) in
          let within : base ^ suc n ≤ v = power_within n base v q h.r12 le in
          let few : suc n ≤ 31 = few_turns (suc n) base v low within h.small in
          let plus : n + 1 ≡ suc n = omega arith in
          rw (h.number.r24, h.r10, h.r11) (to_stage asked bank stay [] stay (4096 + 129 - 10 * suc n) places.COUNT _ refl refl (omega (arith, h.paid, few)) (omega (arith, h.paid, few)) (
            turns h.fuel (0xEE0000 + (64 - suc n)),
            omega (arith, h.to_do, few),
            record {
              fuel = h.fuel;
              taken = h.taken;
              count = h.count;
              c = h.c;
              negative = h.negative;
              base = base;
              letter = h.letter;
              turned = suc n;
              walk = kept s h.fuel h.taken 0 e h.walk _ refl refl h.walk.r26;
              r17 = h.r17;
              r18 = h.r18;
              r20 = h.r20;
              number = record { r15 = h.number.r15; r24 = refl; r25 = h.number.r25; is_base = h.number.is_base; letter_small = h.number.letter_small };
              r8 = h.r8;
              small = h.small;
              r10 = omega (arith, few);
              r11 = next_power n base v within h.small;
              r12 = quotient_is q base some ∙ divided n base v q h.r12 some;
              some = inr within;
              turned_few = few;
              least_small = h.least_small;
              is = h.is;
              to_do = omega arith;
              paid = omega arith;
            },
          )),
      λ below.
          let lt : q < base = (let g = true_then q e.regs.r24 below in omega (arith, g, h.number.r24)) in
          let beyond : v < base ^ suc n = power_beyond n base v q h.r12 some lt in (
            λ more.
                let plus : (e.regs.r10 + 1) % 2 ^ 32 ≡ suc n = omega (arith, h.r10, h.turned_few) in
                let digits = digits_of n base v low h.small beyond h.some more in
                rw plus (to_stage asked bank stay [] stay (4096 + 121 - 10 * suc n) places.ZEROS _ refl refl (omega (arith, h.paid, h.turned_few)) (omega (arith, h.paid, h.turned_few)) (
                  turns h.fuel 0xED0000,
                  omega (arith, h.to_do),
                  record {
                    fuel = h.fuel;
                    taken = h.taken;
                    count = h.count;
                    c = h.c;
                    negative = h.negative;
                    base = base;
                    letter = h.letter;
                    walk = kept s h.fuel h.taken 0 e h.walk _ refl refl h.walk.r26;
                    r17 = h.r17;
                    r18 = h.r18;
                    r20 = h.r20;
                    number = record { r15 = h.number.r15; r24 = h.number.r24; r25 = h.number.r25; is_base = h.number.is_base; letter_small = h.number.letter_small };
                    r8 = h.r8;
                    small = h.small;
                    r10 = sym (ap length digits ∙ lowest_length (suc n) base v);
                    r11 = h.r11;
                    digits_few = omega (arith, h.turned_few);
                    least_small = h.least_small;
                    is = h.is;
                    to_do = omega arith;
                    paid = omega arith;
                  },
                )),
            λ none.
                let first : n ≡ 0 = ⊎_elim (λ z. z) (λ le. absurd (let p = power_some n base some in omega (arith, p, le, none))) h.some in
                let r10 : e.regs.r10 ≡ 0 = h.r10 ∙ first in
                to_stage asked bank stay [] stay (4096 + 121) places.ZEROS _ refl refl (omega (arith, h.paid, h.turned_few)) (omega (arith, h.paid, first)) (
                  turns h.fuel 0xED0000,
                  omega (arith, h.to_do),
                  record {
                    fuel = h.fuel;
                    taken = h.taken;
                    count = h.count;
                    c = h.c;
                    negative = h.negative;
                    base = base;
                    letter = h.letter;
                    walk = kept s h.fuel h.taken 0 e h.walk _ refl refl h.walk.r26;
                    r17 = h.r17;
                    r18 = h.r18;
                    r20 = h.r20;
                    number = record { r15 = h.number.r15; r24 = h.number.r24; r25 = h.number.r25; is_base = h.number.is_base; letter_small = h.number.letter_small };
                    r8 = h.r8;
                    small = h.small;
                    r10 = r10 ∙ sym (ap length (digits_of_0 base v none));
                    r11 = subst (λ k. HasPower k base e.regs.r11) (sym r10) tt;
                    digits_few = omega (arith, r10);
                    least_small = h.least_small;
                    is = h.is;
                    to_do = omega arith;
                    paid = omega arith;
                  },
                ),
          ),
    )
