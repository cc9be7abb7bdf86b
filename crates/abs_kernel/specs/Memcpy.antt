-- memcpy, bcopy (PSX-SPX, Kernel (BIOS), Memory functions: memcpy, bcopy). A pointer 0 answers 0 and touches nothing; the count is signed.
use Rattle.std.specs.Prelude.{ℕ, zero, suc, ◌%◌, ◌^◌, ◌||◌, nat_eq, if◌then◌else◌}
use Rattle.psx_base.specs.KernelState.{KernelState}
use Rattle.abs_kernel.specs.Stay.{Stay}
use Rattle.abs_kernel.specs.Answered.{registers_of, answered}
use Rattle.abs_kernel.specs.UserBytes.{reads_byte, writes_byte, following, count_of}

-- n bytes are copied one by one, each read as memory is then, so also what was copied before
abbrev pub copy_bytes : (n : ℕ) → KernelState → (to from : ℕ) → (KernelState → Stay) → Stay
copy_bytes zero s to from next = next s
copy_bytes (suc n) s to from next = reads_byte s from (λ b. writes_byte s to (b % 2 ^ 8) (λ t. copy_bytes n t (following to) (following from) next))

-- the answer is where they are copied to
abbrev pub copies : KernelState → (to from n : ℕ) → Stay
copies s to from n = if nat_eq to 0 || nat_eq from 0 then answered s 0 else copy_bytes (count_of n) s to from (λ t. answered t to)

-- memcpy(d, s, n)
abbrev pub memcpy : KernelState → Stay
memcpy s = let r = registers_of s in copies s r.r4 r.r5 r.r6

-- bcopy(s, d, n)
abbrev pub bcopy : KernelState → Stay
bcopy s = let r = registers_of s in copies s r.r5 r.r4 r.r6
