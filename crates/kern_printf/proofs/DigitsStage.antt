-- DIGITS writes the digits of a number.
use Rattle.psx_flow.proofs.Kit.{◌≡◌, ℕ, suc, ◌+◌, ◌-◌, ◌%◌, ◌^◌, ◌<◌, ◌≤◌, ◌++◌, [], ◌∷◌, false, refl, sym, ap, ◌∙◌, subst, arith, Run, Calls, calls, fair, kernel_words, start}
use Rattle.std.proofs.Common.{zero, ◌/◌}
use Rattle.std.specs.Prelude.{map, nat_le, None, if◌then◌else◌}
use Rattle.std.proofs.lemmas.Bool.{le-leb}
use Rattle.std.proofs.lemmas.Nat.{mod_below}
use Rattle.psx_base.specs.KernelState.{KernelState}
use Rattle.psx_cpu.specs.Words.{quotient, remainder}
use Rattle.abs_kernel.specs.Stay.{Stay, Write}
use Rattle.abs_kernel.specs.Numeral.{lowest_digits}
use Rattle.abs_kernel.specs.Conversion.{spaces, byte_of_digit}
use Rattle.abs_kernel.specs.Printf.{writes, print_format}
use Rattle.kern_stay.specs.Shared.{tree, tested_there}
use Rattle.kern_stay.specs.Doors.{begun}
use Rattle.kern_stay.specs.Stages.{Asked, Leads, Less}
use Rattle.kern_stay.proofs.RoomGiven.{true_then, false_then}
use Rattle.kern_stay.proofs.Staging.{to_stage, printed_to}
use Rattle.kern_printf.specs.Own.{own}
use Rattle.kern_printf.specs.declared.places.TheConstants as places
use Rattle.kern_printf.specs.declared.emission.TheConstants.{DIGITS_NODES}
use Rattle.kern_printf.specs.Texts.{IsBase, HasPower}
use Rattle.kern_printf.specs.Walking.{Walk, turns}
use Rattle.kern_printf.specs.Writing.{AtDigits}
use Rattle.kern_printf.specs.Interfaces.{interface, Does}
use Rattle.kern_printf.proofs.Walks.{kept}
use Rattle.kern_printf.proofs.Counting.{counts_on, counts_as}
use Rattle.kern_printf.proofs.DigitCount.{base_some, base_few, quotient_is, remainder_is, power_some, power_above}

-- the first digit, as two divisions make it, and the power for those behind it
record First (n base value power : ℕ) : Type 0 where
  digits : lowest_digits n base value ≡ remainder (quotient value power) base ∷ lowest_digits (n - 1) base value
  small : remainder (quotient value power) base < 16
  next : HasPower (n - 1) base (quotient power base)

first : (n base value power : ℕ) → IsBase base → HasPower n base power → (n ≡ 0 → ⊥) → First n base value power
first zero base value power b h ne = absurd (ne refl)
first (suc n) base value power b h ne =
    let some : 0 < base = base_some base b in
    let few : base ≤ 16 = base_few base b in
    let e : n ≡ suc n - 1 = omega arith in
    let there : 0 < power = subst (λ p. 0 < p) (sym h) (power_some n base some) in
    let d : remainder (quotient value power) base ≡ value / base ^ n % base = remainder_is (quotient value power) base some ∙ ap (λ q. q % base) (quotient_is value power there ∙ ap (λ p. value / p) h) in
    record {
      digits = ap (λ x. x ∷ lowest_digits n base value) (sym d) ∙ ap (λ k. remainder (quotient value power) base ∷ lowest_digits k base value) e;
      small = (let below = mod_below (value / base ^ n) base some in omega (arith, d, below, few));
      next = subst (λ k. HasPower k base (quotient power base)) e (less n h);
    }
  where
    less : (k : ℕ) → power ≡ base ^ k → HasPower k base (quotient power base)
    less zero h = tt
    less (suc k) h = quotient_is power base (base_some base b) ∙ ap (λ p. p / base) h ∙ power_above k base (base_some base b)

-- the byte that it is written as
low_digit : (letter d : ℕ) → d < 10 → byte_of_digit letter d ≡ 0x30 + d
low_digit letter d lt = ap (λ b. if b then letter + (d - 10) else 0x30 + d) (under d lt)
  where
    under : (d : ℕ) → d < 10 → nat_le 10 d ≡ false
    under d lt = grind arith

high_digit : (letter d : ℕ) → 10 ≤ d → byte_of_digit letter d ≡ letter + (d - 10)
high_digit letter d le = ap (λ b. if b then letter + (d - 10) else 0x30 + d) (le-leb 10 d le)

-- behind a digit
again : (s : KernelState) (todo bank : ℕ) (stay : Stay) (e : Run) (h : AtDigits s todo bank stay e) (f : Run) → (h.digits ≡ 0 → ⊥) → Walk s h.fuel h.taken 0 f
    → f.regs ≡ record f.regs { r9 = e.regs.r9; r10 = h.digits - 1; r11 = quotient e.regs.r11 h.base; r17 = (e.regs.r17 + 1) % 2 ^ 32; r20 = e.regs.r20; r24 = h.base; r25 = e.regs.r25 }
    → HasPower (h.digits - 1) h.base (quotient e.regs.r11 h.base)
    → Less (interface s) todo places.DIGITS (bank + 100) (writes (map (byte_of_digit h.letter) (lowest_digits (h.digits - 1) h.base f.regs.r9)) (writes (spaces f.regs.r20) (print_format h.fuel s f.regs.r4 h.taken h.count None))) f
again s todo bank stay e h f some walk k power =
    let r20 = ap (λ r. r.r20) k in
    let r17 = ap (λ r. r.r17) k in
    let counted = counts_on (h.digits - 1 + e.regs.r20) (omega (arith, some)) h.r17 in (
      turns h.fuel (0x800 + (h.digits - 1)),
      omega (arith, h.to_do, some),
      record {
        fuel = h.fuel;
        taken = h.taken;
        count = h.count;
        digits = h.digits - 1;
        base = h.base;
        letter = h.letter;
        walk = walk;
        r17 = record { small = omega (arith, r17); all = omega (arith, r17, r20, counted.all) };
        right_small = omega (arith, r20, h.right_small);
        r10 = ap (λ r. r.r10) k;
        r11 = subst (HasPower (h.digits - 1) h.base) (sym (ap (λ r. r.r11) k)) power;
        r24 = ap (λ r. r.r24) k;
        r25 = (let same = ap (λ r. r.r25) k in omega (arith, same, h.r25));
        is_base = h.is_base;
        value_small = (let same = ap (λ r. r.r9) k in omega (arith, same, h.value_small));
        letter_small = h.letter_small;
        digits_small = omega (arith, h.digits_small);
        is = refl;
        to_do = omega arith;
        paid = omega (arith, h.paid);
      },
    )

pub stage : Does places.DIGITS (tree DIGITS_NODES)
stage s todo bank stay e h =
    let C : Calls = calls kernel_words (own ++ tested_there) in
    let asked : Asked = Less (interface s) todo in
    let on : Stay = writes (spaces e.regs.r20) (print_format h.fuel s e.regs.r4 h.taken h.count None) in
    let n : ℕ = h.digits in
    let bytes : ℕ → Stay = λ k. writes (map (byte_of_digit h.letter) (lowest_digits k h.base e.regs.r9)) on in
    start C (fair kernel_words (own ++ tested_there)) (tree DIGITS_NODES) places.DIGITS (λ _. ⊥) (λ to f. Leads asked bank stay to f) (begun e.regs e.cop0 e.bytes) (
      λ none.
          let z : n ≡ 0 = sym h.r10 ∙ none in
          to_stage asked bank stay [] stay (4096 + 50) places.RIGHT _ refl refl (omega (arith, h.paid, h.digits_small)) (omega (arith, h.paid, z)) (
            turns h.fuel (1 + e.regs.r20),
            omega (arith, h.to_do, h.right_small),
            record {
              fuel = h.fuel;
              taken = h.taken;
              count = h.count;
              walk = kept s h.fuel h.taken 0 e h.walk _ refl refl h.walk.r26;
              r17 = counts_as e.regs.r20 (omega (arith, z)) h.r17;
              right_small = h.right_small;
              is = h.is ∙ ap bytes z;
              to_do = omega arith;
              paid = omega arith;
            },
          ),
      λ some.
          let f = first n h.base e.regs.r9 e.regs.r11 h.is_base h.r11 (λ z. some (h.r10 ∙ z)) in
          let d : ℕ = remainder (quotient e.regs.r9 e.regs.r11) h.base in
          let fewer : (e.regs.r10 + 0xFFFFFFFF) % 2 ^ 32 ≡ n - 1 = omega (arith, h.r10, some, h.digits_small) in
          let is : stay ≡ Write (byte_of_digit h.letter d) (bytes (n - 1)) = h.is ∙ ap (λ ds. writes (map (byte_of_digit h.letter) ds) on) f.digits in
          rw (h.walk.r26, fewer, h.r24) (
            λ low.
                let b = low_digit h.letter d (true_then d 10 low) in
                printed_to asked bank stay [] (byte_of_digit h.letter d) ((d + 0x30) % 2 ^ 32) (bytes (n - 1)) (bank + 100) places.DIGITS _ refl (omega (arith, b, f.small)) is (omega (arith, h.paid, h.digits_small)) (omega (arith, h.paid, h.digits_small))
                (again s todo bank stay e h _ (λ z. some (h.r10 ∙ z)) (kept s h.fuel h.taken 0 e h.walk _ refl refl refl) refl f.next),
            λ high.
                let b = high_digit h.letter d (false_then d 10 high) in
                let le = false_then d 10 high in
                printed_to asked bank stay [] (byte_of_digit h.letter d) ((d + e.regs.r25) % 2 ^ 32) (bytes (n - 1)) (bank + 100) places.DIGITS _ refl (omega (arith, b, le, f.small, h.r25, h.letter_small)) is (omega (arith, h.paid, h.digits_small)) (omega (arith, h.paid, h.digits_small))
                (again s todo bank stay e h _ (λ z. some (h.r10 ∙ z)) (kept s h.fuel h.taken 0 e h.walk _ refl refl refl) refl f.next),
          ),
    )
