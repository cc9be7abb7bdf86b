-- The pending load, as the code holds it: a register, 0 where none is pending, and a value.
use Rattle.std.proofs.Common.{◌≡◌, ℕ, zero, suc, refl}
use Rattle.psx_base.specs.Registers.{Registers, with_register}
use Rattle.psx_base.specs.Context.{settled}
use Rattle.psx_cpu.specs.Changes.{coming}

-- register 0 is written without effect, so none pending is as well a load of it
pub settled-coming : (regs : Registers) (n v : ℕ) → settled regs (coming n v) ≡ with_register regs n v
settled-coming regs zero v = refl
settled-coming regs (suc n) v = refl
