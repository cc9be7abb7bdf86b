-- What a conversion makes of its argument, and the listing that it is for.
use Rattle.psx_flow.proofs.Kit.{◌≡◌, ℕ, ◌+◌, ◌%◌, ◌^◌, ◌<◌, ◌≤◌, [], ◌∷◌, refl, sym, ◌∙◌, subst, arith, Run}
use Rattle.std.proofs.Common.{zero, suc, None}
use Rattle.psx_base.specs.KernelState.{KernelState}
use Rattle.abs_kernel.specs.Stay.{Stay}
use Rattle.abs_kernel.specs.Conversion.{Conversion, Kind, Number, Byte, Text, Alone}
use Rattle.abs_kernel.specs.Printf.{print_format, converts}
use Rattle.kern_stay.specs.Stages.{Less}
use Rattle.kern_printf.specs.Walking.{Walk, turns, HasConversion}
use Rattle.kern_printf.specs.Taking.{HasKind}
use Rattle.kern_printf.specs.Interfaces.{interface}
use Rattle.psx_base.specs.Registers.{Registers}
use Rattle.abs_kernel.specs.Conversion.{number_text}
use Rattle.abs_kernel.specs.Printf.{argument, argument_register, writes_padded, writes_text}
use Rattle.kern_printf.specs.Taking.{writes_all}

-- what it makes of it
abbrev pub on_value : Kind → Conversion → KernelState → (taken count : ℕ) → (ℕ → ℕ → Stay) → ℕ → Stay
on_value (Number with_sign base letter) c s taken count on v = writes_all (number_text c with_sign base letter v) count (on (taken + 1))
on_value Byte c s taken count on v = writes_padded c (v % 2 ^ 8 ∷ []) count (on (taken + 1))
on_value Text c s taken count on v = writes_text c s v count (on (taken + 1))
on_value Alone c s taken count on v = on (taken + 1) count

pub takes_one : (kind : Kind) (f : Run) (c : Conversion) (s : KernelState) (b taken count : ℕ) (on : ℕ → ℕ → Stay) → HasKind kind f → converts kind c s b taken count on ≡ argument s taken (on_value kind c s taken count on)
takes_one (Number with_sign base letter) f c s b taken count on k = refl
takes_one Byte f c s b taken count on k = refl
takes_one Text f c s b taken count on k = refl
takes_one Alone f c s b taken count on k = absurd k

pub same_kind : (kind : Kind) (e f : Run) → HasKind kind e → f.regs.r15 ≡ e.regs.r15 → f.regs.r24 ≡ e.regs.r24 → f.regs.r25 ≡ e.regs.r25 → f.regs.r30 ≡ e.regs.r30 → HasKind kind f
same_kind (Number with_sign base letter) e f k r15 r24 r25 r30 =
    let n = k.0 in
    let old = n.r25 in
    (record { r15 = r15 ∙ n.r15; r24 = r24 ∙ n.r24; r25 = omega (arith, r25, old); is_base = n.is_base; letter_small = n.letter_small }, r30 ∙ k.1)
same_kind Byte e f k r15 r24 r25 r30 = (r30 ∙ k.0, r24 ∙ k.1, r25 ∙ k.2)
same_kind Text e f k r15 r24 r25 r30 = r30 ∙ k
same_kind Alone e f k r15 r24 r25 r30 = k

-- at the listing for it
pub to_taker : (s : KernelState) (todo fuel taken count : ℕ) (c : Conversion) (kind : Kind) (rest : Stay) (f : Run) → turns fuel 0xF10000 ≤ todo → Walk s fuel (taken + 1) 0 f → f.regs.r17 ≡ count % 2 ^ 32 → HasConversion c f
    → HasKind kind f → f.regs.r9 < 2 ^ 32 → rest ≡ on_value kind c s taken count (λ t n. print_format fuel s f.regs.r4 t n None) f.regs.r9 → Less (interface s) todo f.regs.r30 (4096 + 155) rest f
to_taker s todo fuel taken count c (Number with_sign base letter) rest f more w n k kind small is =
    subst (λ a. Less (interface s) todo a (4096 + 155) rest f) (sym kind.1) (
      turns fuel 0xF00000,
      omega (arith, more),
      record {
        fuel = fuel;
        taken = taken + 1;
        count = count;
        c = c;
        with_sign = with_sign;
        base = base;
        letter = letter;
        walk = w;
        r17 = n;
        conversion = k;
        number = kind.0;
        small = small;
        is = is;
        to_do = omega arith;
        paid = omega arith;
      },
    )
to_taker s todo fuel taken count c Byte rest f more w n k kind small is =
    subst (λ a. Less (interface s) todo a (4096 + 155) rest f) (sym kind.0) (
      turns fuel 0xF00000,
      omega (arith, more),
      record { fuel = fuel; taken = taken + 1; count = count; c = c; walk = w; r17 = n; conversion = k; r24 = kind.1; r25 = kind.2; small = small; is = is; to_do = omega arith; paid = omega arith },
    )
to_taker s todo fuel taken count c Text rest f more w n k kind small is =
    subst (λ a. Less (interface s) todo a (4096 + 155) rest f) (sym kind)
    (turns fuel 0xF00000, omega (arith, more), record { fuel = fuel; taken = taken + 1; count = count; c = c; walk = w; r17 = n; conversion = k; small = small; is = is; to_do = omega arith; paid = omega arith })
to_taker s todo fuel taken count c Alone rest f more w n k kind small is = absurd kind

-- ---- the registers

pub third : (r : Registers) (t : ℕ) → (t ≡ 0 → ⊥) → (t ≡ 1 → ⊥) → argument_register r t ≡ r.r7
third r zero n0 n1 = absurd (n0 refl)
third r (suc zero) n0 n1 = absurd (n1 refl)
third r (suc (suc t)) n0 n1 = refl
