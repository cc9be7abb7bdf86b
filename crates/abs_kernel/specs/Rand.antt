-- rand (PSX-SPX, Kernel (BIOS), Misc Functions: rand).
use Rattle.std.specs.Prelude.{ℕ, ◌+◌, ◌*◌, ◌/◌, ◌%◌, ◌^◌}
use Rattle.psx_base.specs.KernelState.{KernelState}
use Rattle.abs_kernel.specs.Stay.{Stay}
use Rattle.abs_kernel.specs.Answered.{answered}

abbrev pub random_next : ℕ → ℕ
random_next x = (x * 0x41C64E6D + 0x3039) % 2 ^ 32

-- with another random state
abbrev pub with_random : KernelState → ℕ → KernelState
with_random s x = record s { random = x }

-- rand(): the next state, of which the answer is bits 16 to 30
abbrev pub rand : KernelState → Stay
rand s = let x = random_next s.random in answered (with_random s x) (x / 2 ^ 16 % 2 ^ 15)
