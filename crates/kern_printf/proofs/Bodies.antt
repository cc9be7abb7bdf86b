-- What stands between spaces, as the registers have it, from a listing to the next one.
use Rattle.std.proofs.Common.{◌≡◌, ℕ, zero, suc, ◌+◌, ◌-◌, ◌*◌, ◌≤◌, ◌++◌, List, Bool, true, false, refl, sym, ap, ◌∙◌, subst, arith}
use Rattle.std.specs.Prelude.{None, replicate}
use Rattle.psx_base.specs.KernelState.{KernelState}
use Rattle.psx_cpu.specs.Words.{truth}
use Rattle.psx_flow.specs.Run.{Run}
use Rattle.abs_kernel.specs.Stay.{Stay, Write}
use Rattle.abs_kernel.specs.Conversion.{spaces}
use Rattle.abs_kernel.specs.Printf.{writes, writes_from, print_format}
use Rattle.kern_stay.specs.Stages.{Less}
use Rattle.kern_printf.specs.Texts.{Body, Figures, Bytes, Null, shows, size_of, owed, Has, HasPower, HasBytes}
use Rattle.kern_printf.specs.Walking.{Walk, turns}
use Rattle.kern_printf.specs.Writing.{CountsTo}
use Rattle.kern_printf.specs.Interfaces.{interface}
use Rattle.kern_printf.proofs.TextForms.{truth_few}

-- ---- the first of a text

pub first_of : (n b : ℕ) (next : Stay) → (n ≡ 0 → ⊥) → writes (replicate n b) next ≡ Write b (writes (replicate (n - 1) b) next)
first_of zero b next ne = absurd (ne refl)
first_of (suc n) b next ne = let e : n ≡ suc n - 1 = omega arith in ap (λ k. Write b (writes (replicate k b) next)) e

pub first_before : (n b : ℕ) (xs : List ℕ) (next : Stay) → (n ≡ 0 → ⊥) → writes (replicate n b ++ xs) next ≡ Write b (writes (replicate (n - 1) b ++ xs) next)
first_before zero b xs next ne = absurd (ne refl)
first_before (suc n) b xs next ne = let e : n ≡ suc n - 1 = omega arith in ap (λ k. Write b (writes (replicate k b ++ xs) next)) e

-- ---- flags

pub is_true : (b : Bool) (n : ℕ) → n ≡ truth b → (n ≡ 0 → ⊥) → b ≡ true
is_true true n e ne = refl
is_true false n e ne = absurd (ne e)

pub is_false : (b : Bool) (n : ℕ) → n ≡ truth b → n ≡ 0 → b ≡ false
is_false false n e z = refl
is_false true n e z = absurd (omega (arith, e, z))

-- ---- a body where its registers stay

-- an owed step is that of a digit, of which there are few
pub owed_few : (b : Body) (e : Run) → Has b e → owed b ≤ 32
owed_few (Figures ahead byte zs ds value base letter) e h = h.digits_small
owed_few (Bytes size from) e h = omega arith
owed_few (Null passed size) e h = omega arith

pub has_on : (e : Run) (b : Body) (f : Run) → Has b e → f.regs.r8 ≡ e.regs.r8 → f.regs.r9 ≡ e.regs.r9 → f.regs.r10 ≡ e.regs.r10 → f.regs.r11 ≡ e.regs.r11 → f.regs.r15 ≡ e.regs.r15 → f.regs.r19 ≡ e.regs.r19
    → f.regs.r24 ≡ e.regs.r24 → f.regs.r25 ≡ e.regs.r25 → f.regs.r30 ≡ e.regs.r30 → Has b f
has_on e (Figures ahead byte zs ds value base letter) f h r8 r9 r10 r11 r15 r19 r24 r25 r30 = record {
  r15 = r15 ∙ h.r15;
  r8 = r8 ∙ h.r8;
  r19 = r19 ∙ h.r19;
  r10 = r10 ∙ h.r10;
  r11 = subst (HasPower ds base) (sym r11) h.r11;
  r9 = r9 ∙ h.r9;
  r24 = r24 ∙ h.r24;
  r25 = omega (arith, r25, h.r25);
  r30 = r30 ∙ h.r30;
  is_base = h.is_base;
  value_small = h.value_small;
  letter_small = h.letter_small;
  zeros_small = h.zeros_small;
  digits_small = h.digits_small;
}
has_on e (Bytes size from) f h r8 r9 r10 r11 r15 r19 r24 r25 r30 = record { r10 = r10 ∙ h.r10; r9 = r9 ∙ h.r9; r30 = r30 ∙ h.r30; good = h.good; few = h.few; ends = h.ends }
has_on e (Null passed size) f h r8 r9 r10 r11 r15 r19 r24 r25 r30 = record { r10 = r10 ∙ h.r10; r9 = r9 ∙ h.r9; r25 = r25 ∙ h.r25; r30 = r30 ∙ h.r30; few = h.few }

-- ---- at the listing that writes it

pub to_body : (s : KernelState) (todo bank fuel taken count : ℕ) (b : Body) (rest : Stay) (f : Run) → Walk s fuel taken 0 f → CountsTo count f.regs.r17 (size_of b + f.regs.r20) → f.regs.r20 ≤ 255 → Has b f
    → rest ≡ shows b s (writes (spaces f.regs.r20) (print_format fuel s f.regs.r4 taken count None)) → turns fuel 0x300000 ≤ todo → 4096 + 84 - 10 * owed b ≤ bank
    → Less (interface s) todo f.regs.r30 bank rest f
to_body s todo bank fuel taken count (Figures ahead b zs ds value base letter) rest f walk r17 small h is to_do paid =
    subst (λ a. Less (interface s) todo a bank rest f) (sym h.r30) (
      turns fuel 0x200000,
      omega (arith, to_do),
      record {
        fuel = fuel;
        taken = taken;
        count = count;
        ahead = ahead;
        byte = b;
        filling = zs;
        digits = ds;
        value = value;
        base = base;
        letter = letter;
        walk = walk;
        r17 = r17;
        right_small = small;
        has = h;
        is = is;
        to_do = (let one = truth_few ahead in omega (arith, one, h.zeros_small));
        paid = paid;
      },
    )
to_body s todo bank fuel taken count (Bytes size from) rest f walk r17 small h is to_do paid =
    subst (λ a. Less (interface s) todo a bank rest f) (sym h.r30) (
      turns fuel 0x200000 + 0x8000,
      omega (arith, to_do),
      record {
        fuel = fuel;
        taken = taken;
        count = count;
        size = size;
        walk = walk;
        r17 = r17;
        right_small = small;
        has = subst (λ x. HasBytes size x f) (sym h.r9) h;
        is = is ∙ ap (λ x. writes_from size s x (writes (spaces f.regs.r20) (print_format fuel s f.regs.r4 taken count None))) (sym h.r9);
        to_do = omega (arith, h.few);
        paid = paid;
      },
    )
to_body s todo bank fuel taken count (Null passed size) rest f walk r17 small h is to_do paid =
    subst (λ a. Less (interface s) todo a bank rest f) (sym h.r30) (
      turns fuel 0x200000,
      omega (arith, to_do),
      record { fuel = fuel; taken = taken; count = count; passed = passed; size = size; walk = walk; r17 = r17; right_small = small; has = h; is = is; to_do = omega (arith, h.few); paid = paid },
    )
