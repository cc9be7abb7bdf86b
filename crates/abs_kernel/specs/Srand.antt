-- srand (PSX-SPX, Kernel (BIOS), Misc Functions: srand).
use Rattle.psx_base.specs.KernelState.{KernelState}
use Rattle.abs_kernel.specs.Stay.{Stay}
use Rattle.abs_kernel.specs.Answered.{registers_of, answered}
use Rattle.abs_kernel.specs.Rand.{with_random}

-- srand(x) sets the random state
abbrev pub srand : KernelState → Stay
srand s = answered (with_random s (registers_of s).r4) 0
