-- strlen (PSX-SPX, Kernel (BIOS), String functions: strlen). A pointer 0 answers 0 and touches nothing.
use Rattle.std.specs.Prelude.{ℕ, zero, suc, ◌+◌, nat_eq, if◌then◌else◌}
use Rattle.psx_base.specs.KernelState.{KernelState}
use Rattle.abs_kernel.specs.Stay.{Stay}
use Rattle.abs_kernel.specs.Answered.{registers_of, answered}
use Rattle.abs_kernel.specs.UserBytes.{reads_byte, bad_pointer, following, longest}

-- the bytes up to the first zero are counted, from a count on; there are fewer than n
abbrev pub count_bytes : (n : ℕ) → KernelState → (at count : ℕ) → Stay
count_bytes zero s at count = bad_pointer s at
count_bytes (suc n) s at count = reads_byte s at (λ b. if nat_eq b 0 then answered s count else count_bytes n s (following at) (count + 1))

-- strlen(s) answers the number of bytes before the zero
abbrev pub strlen : KernelState → Stay
strlen s = let r = registers_of s in if nat_eq r.r4 0 then answered s 0 else count_bytes longest s r.r4 0
