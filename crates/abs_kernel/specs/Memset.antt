-- memset, bzero (PSX-SPX, Kernel (BIOS), Memory functions: memset, bzero). A pointer 0 answers 0 and touches nothing; the count is signed.
use Rattle.std.specs.Prelude.{ℕ, zero, suc, ◌%◌, ◌^◌, nat_eq, if◌then◌else◌}
use Rattle.psx_base.specs.KernelState.{KernelState}
use Rattle.abs_kernel.specs.Stay.{Stay}
use Rattle.abs_kernel.specs.Answered.{registers_of, answered}
use Rattle.abs_kernel.specs.UserBytes.{writes_byte, following, count_of}

-- n bytes are written, all the same
abbrev pub fill : (n : ℕ) → KernelState → (at value : ℕ) → (KernelState → Stay) → Stay
fill zero s at value next = next s
fill (suc n) s at value next = writes_byte s at value (λ t. fill n t (following at) value next)

-- a value's low byte is written n times; the answer is where
abbrev pub fills : KernelState → (at value n : ℕ) → Stay
fills s at value n = if nat_eq at 0 then answered s 0 else fill (count_of n) s at (value % 2 ^ 8) (λ t. answered t at)

-- memset(d, c, n)
abbrev pub memset : KernelState → Stay
memset s = let r = registers_of s in fills s r.r4 r.r5 r.r6

-- bzero(d, n)
abbrev pub bzero : KernelState → Stay
bzero s = let r = registers_of s in fills s r.r4 0 r.r5
