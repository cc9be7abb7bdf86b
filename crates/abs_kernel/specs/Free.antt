-- free (PSX-SPX, Kernel (BIOS), Memory Allocation: free). Where p is no used block's address nothing happens.
use Rattle.psx_base.specs.KernelState.{KernelState}
use Rattle.abs_kernel.specs.Stay.{Stay}
use Rattle.abs_kernel.specs.Answered.{registers_of, answered}
use Rattle.abs_kernel.specs.Heap.{with_freed_block}

-- free(p)
abbrev pub free : KernelState → Stay
free s = answered (with_freed_block s (registers_of s).r4) 0
