-- Addresses that are multiples, and what stands there.
use Rattle.std.proofs.Common.{◌≡◌, ℕ, ◌%◌, Bool, true, false, ◌==◌, List, Result, Ok, Err, refl, sym, ap, ◌∙◌, if◌then◌else◌}
use Rattle.psx_ins.specs.declared.reg.Reg.{Reg}
use Rattle.psx_asm.specs.declared.fault.AsmFault.{AsmFault}
use Rattle.psx_asm.specs.declared.fault.AsmFault.TheVariants.{Range}
use Rattle.psx_asm.specs.Operands.{Known, Value}
use Rattle.psx_asm.specs.Line.{◌>>=◌}
use Rattle.psx_asm.specs.Encoding.{resolved_word, aligned, address_code, of_address}

pub aligned_is : {A : Type 0} (multiple at : ℕ) (x : Result A AsmFault) → aligned multiple at (Ok at) ≡ Ok at → aligned multiple at x ≡ x
aligned_is multiple at x e = by (at % multiple == 0) e
  where
    by : (b : Bool) → (if b then Ok at else Err (Range at)) ≡ Ok at → (if b then x else Err (Range at)) ≡ x
    by true h = refl
    by false h = cc

-- the code by which a register gets a value
pub address_given : (known : Known) (at : ℕ) (t : Reg) (v : Value) (w : ℕ) (bytes : List ℕ) → resolved_word known v ≡ Ok w → aligned 4 at (Ok at) ≡ Ok at
    → bytes ≡ address_code t w → of_address known at t v ≡ Ok bytes
unfolding of_address
address_given known at t v w bytes is stands made =
    ap (λ r. r >>= λ w. aligned 4 at (Ok (address_code t w))) is ∙ aligned_is 4 at (Ok (address_code t w)) stands ∙ ap Ok (sym made)
