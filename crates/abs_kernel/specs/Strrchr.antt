-- strrchr and rindex (PSX-SPX, Kernel (BIOS), String functions: strrchr, rindex). A pointer 0 answers 0 and touches nothing.
use Rattle.std.specs.Prelude.{ℕ, zero, suc, ◌%◌, ◌^◌, nat_eq, if◌then◌else◌}
use Rattle.psx_base.specs.KernelState.{KernelState}
use Rattle.abs_kernel.specs.Stay.{Stay}
use Rattle.abs_kernel.specs.Answered.{registers_of, answered}
use Rattle.abs_kernel.specs.UserBytes.{reads_byte, bad_pointer, following, longest}

-- the address of the last byte that is c is kept up to the zero, which is among them, and answered there. The text has fewer than n bytes
abbrev pub find_last : (n : ℕ) → KernelState → (at c found : ℕ) → Stay
find_last zero s at c found = bad_pointer s at
find_last (suc n) s at c found =
    reads_byte s at (λ b. let last : ℕ = if nat_eq b c then at else found in if nat_eq b 0 then answered s last else find_last n s (following at) c last)

-- strrchr(s, c) finds the last byte that is c's low byte; 0 where there is none
abbrev pub strrchr : KernelState → Stay
strrchr s = let r = registers_of s in if nat_eq r.r4 0 then answered s 0 else find_last longest s r.r4 (r.r5 % 2 ^ 8) 0
