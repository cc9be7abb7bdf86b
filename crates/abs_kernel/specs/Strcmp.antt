-- strcmp and strncmp (PSX-SPX, Kernel (BIOS), String functions: strcmp, strncmp). A pointer 0 answers 0 and touches nothing; the count is signed.
use Rattle.std.specs.Prelude.{ℕ, zero, suc, ◌||◌, nat_eq, if◌then◌else◌}
use Rattle.psx_base.specs.KernelState.{KernelState}
use Rattle.abs_kernel.specs.Stay.{Stay}
use Rattle.abs_kernel.specs.Answered.{registers_of, answered}
use Rattle.abs_kernel.specs.UserBytes.{reads_byte, following, count_of, longest}
use Rattle.abs_kernel.specs.Memcmp.{difference}

-- Two texts are compared byte by byte, n bytes at most: the difference of the first two bytes that differ, or 0 where both texts end or no more bytes are to come.
abbrev pub compare_texts : (n : ℕ) → KernelState → (a b : ℕ) → Stay
compare_texts zero s a b = answered s 0
compare_texts (suc n) s a b =
    reads_byte s a (λ x. reads_byte s b (λ y. if nat_eq x y then (if nat_eq x 0 then answered s 0 else compare_texts n s (following a) (following b)) else answered s (difference x y)))

-- strcmp(a, b) compares them to their ends: no text has as many bytes as `longest`
abbrev pub strcmp : KernelState → Stay
strcmp s = let r = registers_of s in if nat_eq r.r4 0 || nat_eq r.r5 0 then answered s 0 else compare_texts longest s r.r4 r.r5

-- strncmp(a, b, n) compares n bytes at most
abbrev pub strncmp : KernelState → Stay
strncmp s = let r = registers_of s in if nat_eq r.r4 0 || nat_eq r.r5 0 then answered s 0 else compare_texts (count_of r.r6) s r.r4 r.r5
