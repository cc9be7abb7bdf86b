-- strcat (PSX-SPX, Kernel (BIOS), String functions: strcat). A pointer 0, either of the two, answers 0 and touches nothing.
use Rattle.std.specs.Prelude.{ℕ, zero, suc, ◌||◌, nat_eq, if◌then◌else◌}
use Rattle.psx_base.specs.KernelState.{KernelState}
use Rattle.abs_kernel.specs.Stay.{Stay}
use Rattle.abs_kernel.specs.Answered.{registers_of, answered}
use Rattle.abs_kernel.specs.UserBytes.{reads_byte, bad_pointer, following, longest}
use Rattle.abs_kernel.specs.Strcpy.{copy_text, closes}

-- a text's zero is found, and the stay goes on by its address; it is among n bytes
abbrev pub find_end : (n : ℕ) → KernelState → (at : ℕ) → (next : ℕ → Stay) → Stay
find_end zero s at next = bad_pointer s at
find_end (suc n) s at next = reads_byte s at (λ b. if nat_eq b 0 then next at else find_end n s (following at) next)

-- strcat(d, s) copies s with its zero to where d's zero is, and answers d
abbrev pub strcat : KernelState → Stay
strcat s = let r = registers_of s in if nat_eq r.r4 0 || nat_eq r.r5 0 then answered s 0 else find_end longest s r.r4 (λ at. copy_text longest s at r.r5 (closes r.r4))
