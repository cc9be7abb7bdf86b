-- calloc (PSX-SPX, Kernel (BIOS), Memory Allocation: calloc).
use Rattle.std.specs.Prelude.{ℕ, ◌*◌, ◌^◌, nat_le, Option, Some, None, if◌then◌else◌}
use Rattle.psx_base.specs.KernelState.{KernelState}
use Rattle.abs_kernel.specs.Stay.{Stay}
use Rattle.abs_kernel.specs.Answered.{registers_of, answered}
use Rattle.abs_kernel.specs.Memset.{fill}
use Rattle.abs_kernel.specs.Heap.{Given, allocates, with_blocks}

-- n zeros are written to the block
abbrev pub clears : (n : ℕ) → KernelState → Option Given → Stay
clears n s None = answered s 0
clears n s (Some g) = fill n (with_blocks s g.blocks) g.at 0 (λ t. answered t g.at)

-- calloc(a, b) is as malloc of the product, which is to fit a word
abbrev pub calloc : KernelState → Stay
calloc s = let n : ℕ = (registers_of s).r4 * (registers_of s).r5 in if nat_le (2 ^ 32) n then answered s 0 else clears n s (allocates s.heap n)
