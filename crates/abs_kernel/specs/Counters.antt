-- The root counters by their numbers, 0 to 2 (PSX-SPX, Kernel (BIOS), Timer Functions).
use Rattle.std.specs.Prelude.{ℕ, ◌+◌, nat_eq, nat_lt, if◌then◌else◌}
use Rattle.psx_base.specs.Ports.{I_MASK}
use Rattle.psx_base.specs.KernelState.{KernelState}
use Rattle.abs_kernel.specs.Stay.{Stay, Ask, Tell}
use Rattle.abs_kernel.specs.Answered.{registers_of, answered}

-- a call on the counter in r4; another number does nothing, and the answer is 0
abbrev pub of_counter : KernelState → ((t : ℕ) → Stay) → Stay
of_counter s stay = let t = (registers_of s).r4 in if nat_lt t 3 then stay t else answered s 0

-- the interrupt line of a counter; the number 3 stands for VBLANK
abbrev pub line_of : (t : ℕ) → ℕ
line_of t = if nat_eq t 3 then 0 else 4 + t

-- I_MASK is read, and written with one line changed; the answer is 1. Another number does nothing, and the answer is 0.
abbrev pub masks : (change : (mask line : ℕ) → ℕ) → KernelState → Stay
masks change s = let t = (registers_of s).r4 in if nat_lt t 4 then Ask I_MASK (λ mask. Tell I_MASK (change mask (line_of t)) (answered s 1)) else answered s 0
