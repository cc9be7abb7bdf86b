-- realloc (PSX-SPX, Kernel (BIOS), Memory Allocation: realloc). The new block is taken while the old one is still used.
use Rattle.std.specs.Prelude.{ℕ, min, nat_eq, Option, Some, None, if◌then◌else◌}
use Rattle.psx_base.specs.KernelState.{KernelState}
use Rattle.abs_kernel.specs.Stay.{Stay}
use Rattle.abs_kernel.specs.Answered.{registers_of, answered}
use Rattle.abs_kernel.specs.Memcpy.{copy_bytes}
use Rattle.abs_kernel.specs.Heap.{Given, allocates, used_size, with_blocks, with_freed_block}
use Rattle.abs_kernel.specs.Malloc.{gives}

-- n bytes of the block at p are copied to the new one, and p is freed; where there is no new one the old one stays
abbrev pub moves : (p n : ℕ) → KernelState → Option Given → Stay
moves p n s None = answered s 0
moves p n s (Some g) = copy_bytes n (with_blocks s g.blocks) g.at p (λ t. answered (with_freed_block t p) g.at)

-- n bytes in the place of the used block at p, by its size; 0 where there is none
abbrev pub resizes : (p n : ℕ) → KernelState → Option ℕ → Stay
resizes p n s None = answered s 0
resizes p n s (Some size) = moves p (min n size) s (allocates s.heap n)

-- realloc(p, n): of a pointer 0 it is malloc(n), and of a size 0 free(p)
abbrev pub realloc : KernelState → Stay
realloc s =
    let p : ℕ = (registers_of s).r4 in
    let n : ℕ = (registers_of s).r5 in
    if nat_eq p 0 then gives s (allocates s.heap n)
    else if nat_eq n 0 then answered (with_freed_block s p) 0
    else resizes p n s (used_size p s.heap.base s.heap.blocks)
