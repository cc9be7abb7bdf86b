-- memchr (PSX-SPX, Kernel (BIOS), Memory functions: memchr). A pointer 0 answers 0 and touches nothing; the count is signed.
use Rattle.std.specs.Prelude.{ℕ, zero, suc, ◌%◌, ◌^◌, nat_eq, if◌then◌else◌}
use Rattle.psx_base.specs.KernelState.{KernelState}
use Rattle.abs_kernel.specs.Stay.{Stay}
use Rattle.abs_kernel.specs.Answered.{registers_of, answered}
use Rattle.abs_kernel.specs.UserBytes.{reads_byte, following, count_of}

-- the first of n bytes that is c answers its address; 0 where there is none
abbrev pub find_byte : (n : ℕ) → KernelState → (at c : ℕ) → Stay
find_byte zero s at c = answered s 0
find_byte (suc n) s at c = reads_byte s at (λ b. if nat_eq b c then answered s at else find_byte n s (following at) c)

-- memchr(s, c, n) finds c's low byte
abbrev pub memchr : KernelState → Stay
memchr s = let r = registers_of s in if nat_eq r.r4 0 then answered s 0 else find_byte (count_of r.r6) s r.r4 (r.r5 % 2 ^ 8)
