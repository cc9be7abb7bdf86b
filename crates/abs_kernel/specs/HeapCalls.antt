-- The calls of the heap as steps from one heap to the next (PSX-SPX, Kernel (BIOS), Memory Allocation). That the stays of the calls make these steps is a law of HeapLaws.
use Rattle.std.specs.Prelude.{ℕ, ◌*◌, ◌^◌, nat_eq, nat_le, List, [], ◌∷◌, Option, Some, None, if◌then◌else◌}
use Rattle.psx_base.specs.KernelState.{Heap}
use Rattle.abs_kernel.specs.Heap.{Given, allocates, used_size, frees}
use Rattle.abs_kernel.specs.InitHeap.{base_of, size_of, new_heap}

-- a call with its arguments
pub data HeapCall : Type 0 where
  Malloc : (n : ℕ) → HeapCall
  Free : (p : ℕ) → HeapCall
  Calloc : (a b : ℕ) → HeapCall
  Realloc : (p n : ℕ) → HeapCall

-- the heap after a call, and its answer
pub record Step : Type 0 where
  pub heap : Heap
  pub answer : ℕ

-- nothing is done
abbrev pub nothing : Heap → Step
nothing h = record { heap = h; answer = 0 }

-- the block at p is freed
abbrev pub freed : (p : ℕ) → Heap → Heap
freed p h = record h { blocks = frees p h }

-- a block is given, or none
abbrev pub given : Heap → Option Given → Step
given h None = nothing h
given h (Some g) = record { heap = record h { blocks = g.blocks }; answer = g.at }

-- the same, and the block at p is freed where a new one is given
abbrev pub replaced : (p : ℕ) → Heap → Option Given → Step
replaced p h None = nothing h
replaced p h (Some g) = record { heap = freed p (record h { blocks = g.blocks }); answer = g.at }

-- n bytes for the block at p, by its size
abbrev pub resized : (p n : ℕ) → Heap → Option ℕ → Step
resized p n h None = nothing h
resized p n h (Some size) = replaced p h (allocates h n)

-- one call
abbrev pub step : HeapCall → Heap → Step
step (Malloc n) h = given h (allocates h n)
step (Free p) h = record { heap = freed p h; answer = 0 }
step (Calloc a b) h = if nat_le (2 ^ 32) (a * b) then nothing h else given h (allocates h (a * b))
step (Realloc p n) h =
    if nat_eq p 0 then given h (allocates h n)
    else if nat_eq n 0 then record { heap = freed p h; answer = 0 }
    else resized p n h (used_size p h.base h.blocks)

-- calls one after the other: the heap after them, and their answers
abbrev pub steps : List HeapCall → Heap → Heap
steps [] h = h
steps (c ∷ cs) h = steps cs (step c h).heap

abbrev pub answers : List HeapCall → Heap → List ℕ
answers [] h = []
answers (c ∷ cs) h = (step c h).answer ∷ answers cs (step c h).heap

-- the heap that InitHeap(p, n) sets, after calls
abbrev pub since : (p n : ℕ) → List HeapCall → Heap
since p n cs = steps cs (new_heap (base_of p) (size_of p n))
