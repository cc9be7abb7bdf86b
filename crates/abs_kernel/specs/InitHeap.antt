-- InitHeap (PSX-SPX, Kernel (BIOS), Memory Allocation: InitHeap). All bytes of the heap are tested before it is set.
use Rattle.std.specs.Prelude.{ℕ, ◌-◌, ◌*◌, ◌/◌, ◌%◌, ◌^◌, false, nat_eq, [], ◌∷◌, if◌then◌else◌}
use Rattle.psx_base.specs.KernelState.{Heap, KernelState}
use Rattle.abs_kernel.specs.Stay.{Stay}
use Rattle.abs_kernel.specs.Answered.{registers_of, answered}
use Rattle.abs_kernel.specs.UserBytes.{tests_bytes}
use Rattle.abs_kernel.specs.Heap.{rounded}

-- an address rounded up to a multiple of 8
abbrev pub base_of : (p : ℕ) → ℕ
base_of p = rounded p % 2 ^ 32

-- of n bytes from p on those that are left there, rounded down to a multiple of 8
abbrev pub size_of : (p n : ℕ) → ℕ
size_of p n = (n - (rounded p - p)) / 8 * 8

-- one free block, or none of size 0
abbrev pub new_heap : (base size : ℕ) → Heap
new_heap base size = record { base = base; blocks = if nat_eq size 0 then [] else (size, false) ∷ [] }

-- the heap is set
abbrev pub sets_heap : (base size : ℕ) → KernelState → Stay
sets_heap base size s = tests_bytes size s base (answered (record s { heap = new_heap base size }) 0)

-- InitHeap(p, n)
abbrev pub init_heap : KernelState → Stay
init_heap s = let r = registers_of s in sets_heap (base_of r.r4) (size_of r.r4 r.r5) s
