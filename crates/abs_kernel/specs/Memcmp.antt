-- memcmp, bcmp (PSX-SPX, Kernel (BIOS), Memory functions: memcmp, bcmp). A pointer 0 answers 0 and touches nothing; the count is signed.
use Rattle.std.specs.Prelude.{ℕ, zero, suc, ◌+◌, ◌-◌, ◌%◌, ◌^◌, ◌||◌, nat_eq, if◌then◌else◌}
use Rattle.psx_base.specs.KernelState.{KernelState}
use Rattle.abs_kernel.specs.Stay.{Stay}
use Rattle.abs_kernel.specs.Answered.{registers_of, answered}
use Rattle.abs_kernel.specs.UserBytes.{reads_byte, following, count_of}

-- a byte less another, as a word with sign
abbrev pub difference : (x y : ℕ) → ℕ
difference x y = (x + 2 ^ 32 - y) % 2 ^ 32

-- the first of n bytes that differ answer their difference; 0 where none do
abbrev pub compare_bytes : (n : ℕ) → KernelState → (a b : ℕ) → Stay
compare_bytes zero s a b = answered s 0
compare_bytes (suc n) s a b = reads_byte s a (λ x. reads_byte s b (λ y. if nat_eq x y then compare_bytes n s (following a) (following b) else answered s (difference x y)))

-- memcmp(a, b, n), and bcmp(a, b, n)
abbrev pub memcmp : KernelState → Stay
memcmp s = let r = registers_of s in if nat_eq r.r4 0 || nat_eq r.r5 0 then answered s 0 else compare_bytes (count_of r.r6) s r.r4 r.r5
