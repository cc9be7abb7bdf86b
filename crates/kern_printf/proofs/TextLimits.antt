-- How many bytes of a text there are at most.
use Rattle.psx_flow.proofs.Kit.{◌≡◌, ℕ, ◌+◌, ◌-◌, ◌*◌, ◌%◌, ◌^◌, ◌<◌, ◌≤◌, ◌++◌, List, refl, sym, ap, ◌∙◌, subst, arith, true, false, Run}
use Rattle.std.proofs.Common.{Bool, Option, Some, None}
use Rattle.std.specs.Prelude.{is_some, unwrap_or, if◌then◌else◌}
use Rattle.psx_base.specs.KernelState.{KernelState}
use Rattle.psx_cpu.specs.Words.{truth}
use Rattle.abs_kernel.specs.Stay.{Stay}
use Rattle.abs_kernel.specs.UserBytes.{longest}
use Rattle.abs_kernel.specs.Conversion.{Conversion, limited}
use Rattle.abs_kernel.specs.Printf.{print_format}
use Rattle.kern_stay.specs.Stages.{Less}
use Rattle.kern_printf.specs.Walking.{Walk, turns}
use Rattle.kern_printf.specs.Interfaces.{interface}
use Rattle.kern_printf.specs.declared.places.TheConstants as places
use Rattle.std.proofs.Math.Nat.{min-le_right}
use Rattle.std.specs.Prelude.{length, take}
use Rattle.std.proofs.lemmas.List.{take_all, length-take-le, length-append, length-replicate}
use Rattle.abs_kernel.specs.Conversion.{null_text, padded, spaces}
use Rattle.abs_kernel.specs.Printf.{most_of, writes, writes_padded}
use Rattle.kern_printf.specs.Texts.{Body, shows, size_of, owed, Has}
use Rattle.kern_printf.proofs.TextForms.{padded_within}

full : longest ≡ 2 ^ 21
unfolding longest
full = λ i. longest

pub no_limit : (o : Option ℕ) → truth (is_some o) ≡ 0 → most_of o ≡ 2 ^ 21
no_limit None e = full
no_limit (Some p) e = absurd (omega (arith, e))

pub its_limit : (o : Option ℕ) → (truth (is_some o) ≡ 0 → ⊥) → most_of o ≡ limited (unwrap_or o 0)
its_limit None ne = absurd (ne refl)
its_limit (Some p) ne = refl

pub capped : (n : ℕ) → limited n ≤ 255
capped n = min-le_right n 255

-- ---- `(null)`

-- so many bytes of it are taken
pub record Taken (most n : ℕ) : Type 0 where
  pub same : take most null_text ≡ take n null_text
  pub length : length (take n null_text) ≡ n
  pub few : n ≤ 6

pub taken_all : (most : ℕ) → 6 ≤ most → Taken most 6
taken_all most h = record { same = take_all most null_text h ∙ sym (take_all 6 null_text (omega arith)); length = refl; few = omega arith }

pub taken_some : (most : ℕ) → most < 6 → Taken most most
taken_some most h = record { same = refl; length = length-take-le most null_text (omega (arith, h)); few = omega (arith, h) }

-- by the precision in registers
pub taken_full : (o : Option ℕ) → truth (is_some o) ≡ 0 → Taken (most_of o) 6
taken_full o e = let m = no_limit o e in taken_all (most_of o) (omega (arith, m))

pub taken_few : (o : Option ℕ) (r : ℕ) → (truth (is_some o) ≡ 0 → ⊥) → r ≡ limited (unwrap_or o 0) → r < 6 → Taken (most_of o) r
taken_few o r ne e lt = let m = its_limit o ne ∙ sym e in subst (λ n. Taken n r) (sym m) (taken_some r lt)

pub taken_most : (o : Option ℕ) (r : ℕ) → (truth (is_some o) ≡ 0 → ⊥) → r ≡ limited (unwrap_or o 0) → 6 ≤ r → Taken (most_of o) 6
taken_most o r ne e ge = let m = its_limit o ne ∙ sym e in taken_all (most_of o) (omega (arith, m, ge))

pub length_padded : (c : Conversion) (text : List ℕ) → length (padded c text) ≡ length text + (limited c.width - length text)
length_padded c text = go c.left
  where
    room : List ℕ
    room = spaces (limited c.width - length text)

    size : length room ≡ limited c.width - length text
    size = length-replicate (limited c.width - length text) 0x20

    go : (t : Bool) → length (if t then text ++ room else room ++ text) ≡ length text + (limited c.width - length text)
    go true = length-append text room ∙ ap (λ n. length text + n) size
    go false = let l = length-append room text in omega (arith, l, size)

-- a text that is padded goes to PADDING
pub to_padding : (s : KernelState) (todo bank fuel taken count : ℕ) (c : Conversion) (text : List ℕ) (b : Body) (f : Run) → turns fuel 0x700001 ≤ todo → Walk s fuel taken 0 f → f.regs.r17 ≡ count % 2 ^ 32 → f.regs.r18 ≡ truth c.left
    → f.regs.r20 ≡ limited c.width → f.regs.r12 ≡ size_of b → Has b f → ((rest : Stay) → shows b s rest ≡ writes text rest) → size_of b ≡ length text → 4096 + 100 - 10 * owed b ≤ bank
    → Less (interface s) todo places.PADDING bank (writes_padded c text count (λ n. print_format fuel s f.regs.r4 taken n None)) f
to_padding s todo bank fuel taken count c text b f more w n r18 r20 r12 has is size paid =
    let l = length_padded c text in (
      turns fuel 0x700000,
      omega (arith, more),
      record {
        fuel = fuel;
        taken = taken;
        count = count + length (padded c text);
        on_left = c.left;
        width = limited c.width;
        body = b;
        walk = w;
        r17 = record { small = omega (arith, n); all = omega (arith, n, l, size) };
        r18 = r18;
        r20 = r20;
        r12 = r12;
        width_small = capped c.width;
        has = has;
        is = padded_within c text (print_format fuel s f.regs.r4 taken (count + length (padded c text)) None) b s is size;
        to_do = omega arith;
        paid = paid;
      },
    )
