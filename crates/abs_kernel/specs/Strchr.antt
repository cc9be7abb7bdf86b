-- strchr and index (PSX-SPX, Kernel (BIOS), String functions: strchr, index). A pointer 0 answers 0 and touches nothing.
use Rattle.std.specs.Prelude.{ℕ, zero, suc, ◌%◌, ◌^◌, nat_eq, if◌then◌else◌}
use Rattle.psx_base.specs.KernelState.{KernelState}
use Rattle.abs_kernel.specs.Stay.{Stay}
use Rattle.abs_kernel.specs.Answered.{registers_of, answered}
use Rattle.abs_kernel.specs.UserBytes.{reads_byte, bad_pointer, following, longest}

-- the first byte of a text that is c answers its address, and the zero is among them; 0 where there is none. The text has fewer than n bytes
abbrev pub find_first : (n : ℕ) → KernelState → (at c : ℕ) → Stay
find_first zero s at c = bad_pointer s at
find_first (suc n) s at c = reads_byte s at (λ b. if nat_eq b c then answered s at else (if nat_eq b 0 then answered s 0 else find_first n s (following at) c))

-- strchr(s, c) finds the first byte that is c's low byte
abbrev pub strchr : KernelState → Stay
strchr s = let r = registers_of s in if nat_eq r.r4 0 then answered s 0 else find_first longest s r.r4 (r.r5 % 2 ^ 8)
