-- A byte within a conversion goes to the listing of what is read.
use Rattle.psx_flow.proofs.Kit.{◌≡◌, ℕ, ◌+◌, ◌%◌, ◌^◌, ◌<◌, ◌≤◌, refl, sym, ◌∙◌, subst, arith, Run}
use Rattle.std.proofs.Common.{Some}
use Rattle.psx_base.specs.KernelState.{KernelState}
use Rattle.abs_kernel.specs.Stay.{Stay}
use Rattle.abs_kernel.specs.Conversion.{Conversion, Reading, Flags, Width, Precision, Lengths, with_next, with_length}
use Rattle.abs_kernel.specs.Printf.{takes_within, print_format}
use Rattle.kern_stay.specs.Stages.{Less}
use Rattle.kern_printf.specs.Walking.{Walk, turns, place_of, HasConversion}
use Rattle.kern_printf.specs.Interfaces.{interface}
use Rattle.kern_printf.specs.declared.places.TheConstants as places

-- it is asked there for what the definition makes of it
pub reads : (s : KernelState) (fuel taken count : ℕ) (c : Conversion) (r : Reading) → c.reading ≡ r → (bank : ℕ) (stay : Stay) (f : Run) → Walk s fuel taken 1 f → f.regs.r17 ≡ count % 2 ^ 32 → HasConversion c f
    → f.regs.r23 ≡ place_of c.reading → stay ≡ takes_within (with_next r c f.regs.r12) c s f.regs.r12 taken count (λ t m d. print_format fuel s f.regs.r4 t m d) → 4096 + 230 ≤ bank → interface s (turns fuel 0xF50000) (place_of r) bank stay f
reads s fuel taken count c Flags q bank stay f w n k p is paid =
    record { fuel = fuel; taken = taken; count = count; c = c; walk = w; r17 = n; conversion = k; r23 = p; is = is; to_do = omega arith; paid = paid }
reads s fuel taken count c Width q bank stay f w n k p is paid =
    record { fuel = fuel; taken = taken; count = count; c = c; walk = w; r17 = n; conversion = k; r23 = p; is = is; to_do = omega arith; paid = omega (arith, paid) }
reads s fuel taken count c Precision q bank stay f w n k p is paid =
    record { fuel = fuel; taken = taken; count = count; c = c; walk = w; r17 = n; conversion = k; r23 = p; is = is; to_do = omega arith; paid = omega (arith, paid) }
reads s fuel taken count c Lengths q bank stay f w n k p is paid =
    record { fuel = fuel; taken = taken; count = count; c = c; walk = w; r17 = n; conversion = k; r23 = p; is = is; to_do = omega arith; paid = omega (arith, paid) }

pub reads_at : (s : KernelState) (fuel taken count : ℕ) (c : Conversion) (bank : ℕ) (stay : Stay) (to : ℕ) (f : Run) → Walk s fuel taken 1 f → f.regs.r17 ≡ count % 2 ^ 32 → HasConversion c f
    → f.regs.r23 ≡ to → to ≡ place_of c.reading → stay ≡ takes_within (with_next c.reading c f.regs.r12) c s f.regs.r12 taken count (λ t m d. print_format fuel s f.regs.r4 t m d) → 4096 + 230 ≤ bank → interface s (turns fuel 0xF50000) to bank stay f
reads_at s fuel taken count c bank stay to f w n k p q is paid = subst (λ y. interface s (turns fuel 0xF50000) y bank stay f) (sym q) (reads s fuel taken count c c.reading refl bank stay f w n k (p ∙ q) is paid)

-- behind a byte that belongs to the conversion
pub goes_back : (s : KernelState) (todo fuel taken count : ℕ) (d : Conversion) (bank : ℕ) (stay : Stay) (f : Run) → turns fuel 1 ≤ todo → Walk s fuel taken 1 f → f.regs.r17 ≡ count % 2 ^ 32 → HasConversion d f
    → f.regs.r23 ≡ place_of d.reading → stay ≡ print_format fuel s f.regs.r4 taken count (Some d) → 4096 + 110 ≤ bank → Less (interface s) todo places.CONVERSION bank stay f
goes_back s todo fuel taken count d bank stay f more w n k p is paid =
    (turns fuel 0, omega (arith, more), record { fuel = fuel; taken = taken; count = count; c = d; walk = w; r17 = n; conversion = k; r23 = p; is = is; to_do = omega arith; paid = paid })

-- at LENGTH, which asks for an `l`
pub to_length : (s : KernelState) (todo fuel taken count : ℕ) (c : Conversion) (stay : Stay) (f : Run) → turns fuel 0xF30000 < todo → Walk s fuel taken 1 f → f.regs.r17 ≡ count % 2 ^ 32 → HasConversion c f
    → f.regs.r23 ≡ place_of c.reading → stay ≡ takes_within (with_length c f.regs.r12) c s f.regs.r12 taken count (λ t m d. print_format fuel s f.regs.r4 t m d) → Less (interface s) todo places.LENGTH (4096 + 212) stay f
to_length s todo fuel taken count c stay f more w n k p is =
    (turns fuel 0xF30000, more, record { fuel = fuel; taken = taken; count = count; c = c; walk = w; r17 = n; conversion = k; r23 = p; is = is; to_do = omega arith; paid = omega arith })
