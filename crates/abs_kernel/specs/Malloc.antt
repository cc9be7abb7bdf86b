-- malloc (PSX-SPX, Kernel (BIOS), Memory Allocation: malloc). The first free block that is large enough is used, and split where it is larger.
use Rattle.std.specs.Prelude.{Option, Some, None}
use Rattle.psx_base.specs.KernelState.{KernelState}
use Rattle.abs_kernel.specs.Stay.{Stay}
use Rattle.abs_kernel.specs.Answered.{registers_of, answered}
use Rattle.abs_kernel.specs.Heap.{Given, allocates, with_blocks}

-- the answer is the block's address, or 0 where there is none
abbrev pub gives : KernelState → Option Given → Stay
gives s None = answered s 0
gives s (Some g) = answered (with_blocks s g.blocks) g.at

-- malloc(n)
abbrev pub malloc : KernelState → Stay
malloc s = gives s (allocates s.heap (registers_of s).r4)
