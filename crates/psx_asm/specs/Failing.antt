-- What a private call returned is what the definition gives, unless memory ran out.
use Rattle.std.specs.Prelude.{◌≡◌, ℕ, List, Result, Ok, Err}
use Rattle.psx_asm.specs.declared.fault.AsmFault.{AsmFault}
use Rattle.psx_asm.specs.declared.fault.AsmFault.TheVariants.{Twice, NoLabel}
use Rattle.psx_asm.specs.declared.fault.Failure.{Failure}
use Rattle.psx_asm.specs.declared.fault.Failure.TheVariants as failures

abbrev pub Fails : {Y : Type 0} → Failure → Result Y AsmFault → Type 0
Fails failures.Memory given = Unit {0}
Fails (failures.Fault f) given = given ≡ Err f

-- where the value is seen by a view
abbrev pub Gives : {X Y : Type 0} → (X → Y) → Result X Failure → Result Y AsmFault → Type 0
Gives view (Ok x) given = given ≡ Ok (view x)
Gives view (Err e) given = Fails e given

-- a name that a text gave before
abbrev pub IsTwice : List ℕ → Failure → Type 0
IsTwice w failures.Memory = Unit {0}
IsTwice w (failures.Fault f) = f ≡ Twice w

-- a name that a text doesn't give
abbrev pub IsNoLabel : List ℕ → Failure → Type 0
IsNoLabel w failures.Memory = Unit {0}
IsNoLabel w (failures.Fault f) = f ≡ NoLabel w
