-- Which kind a byte asks for.
use Rattle.psx_flow.proofs.Kit.{◌≡◌, ℕ, ◌+◌, ◌%◌, ◌^◌, ◌≤◌, ap, ◌∙◌, arith, true, false, Run}
use Rattle.std.proofs.Common.{ne_eqb, None}
use Rattle.std.specs.Prelude.{if◌then◌else◌, ◌||◌}
use Rattle.psx_base.specs.KernelState.{KernelState}
use Rattle.abs_kernel.specs.Stay.{Stay}
use Rattle.abs_kernel.specs.Conversion.{Conversion, Kind, Number, Byte, Text, Alone, kind_of}
use Rattle.abs_kernel.specs.Printf.{takes_within, print_format, converts}
use Rattle.kern_stay.specs.Stages.{Less}
use Rattle.kern_printf.specs.Walking.{Walk, turns, HasConversion}
use Rattle.kern_printf.specs.Taking.{HasKind}
use Rattle.kern_printf.specs.Interfaces.{interface}
use Rattle.kern_printf.specs.declared.places.TheConstants as places

-- where it is none of those that are named
pub alone : (b : ℕ) → (b ≡ 0x64 → ⊥) → (b ≡ 0x69 → ⊥) → (b ≡ 0x75 → ⊥) → (b ≡ 0x6F → ⊥) → (b ≡ 0x78 → ⊥) → (b ≡ 0x58 → ⊥) → (b ≡ 0x63 → ⊥) → (b ≡ 0x73 → ⊥) → kind_of b ≡ Alone
alone b h1 h2 h3 h4 h5 h6 h7 h8 = λ i.
    if (ne_eqb b 0x64 h1 i || ne_eqb b 0x69 h2 i) then Number true 10 0x61
    else if ne_eqb b 0x75 h3 i then Number false 10 0x61
    else if ne_eqb b 0x6F h4 i then Number false 8 0x61
    else if ne_eqb b 0x78 h5 i then Number false 16 0x61
    else if ne_eqb b 0x58 h6 i then Number false 16 0x41
    else if ne_eqb b 0x63 h7 i then Byte
    else if ne_eqb b 0x73 h8 i then Text
    else Alone

-- an argument is taken for it
pub asks : (s : KernelState) (todo fuel taken count : ℕ) (c : Conversion) (kind : Kind) (b : ℕ) (stay : Stay) (f : Run) → turns fuel 0xF20000 ≤ todo → Walk s fuel taken 1 f → f.regs.r17 ≡ count % 2 ^ 32 → HasConversion c f
    → HasKind kind f → stay ≡ converts kind c s b taken count (λ t n. print_format fuel s f.regs.r4 t n None) → Less (interface s) todo places.ARGUMENT (4096 + 170) stay f
asks s todo fuel taken count c kind b stay f more w n k is_kind is = (
  turns fuel 0xF10000,
  omega (arith, more),
  record { fuel = fuel; taken = taken; count = count; c = c; kind = kind; byte = b; walk = w; r17 = n; conversion = k; kind_is = is_kind; is = is; to_do = omega arith; paid = omega arith },
)

-- where it takes one: the stay by its kind
pub asked_for : (s : KernelState) (fuel at taken count : ℕ) (c : Conversion) (kind : Kind) (b : ℕ) (stay : Stay) → stay ≡ takes_within None c s b taken count (λ t m d. print_format fuel s at t m d) → kind_of b ≡ kind
    → stay ≡ converts kind c s b taken count (λ t n. print_format fuel s at t n None)
asked_for s fuel at taken count c kind b stay is k = is ∙ ap (λ y. converts y c s b taken count (λ t n. print_format fuel s at t n None)) k
