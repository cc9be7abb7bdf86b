-- What holds of the heap after any calls since InitHeap.
use Rattle.std.specs.Prelude.{◌≡◌, ◌≢◌, ◌⊎◌, ◌↔◌, ℕ, ◌+◌, ◌*◌, ◌^◌, ◌<◌, ◌≤◌, ◌%◌, min, Bool, true, false, List, [], ◌++◌, length, All, sum_by, find, Some, None}
use Rattle.psx_base.specs.declared.stop.Stop.{Stop}
use Rattle.psx_base.specs.FirstBad.{first_bad_of}
use Rattle.psx_base.specs.Addresses.{place}
use Rattle.psx_base.specs.Memory.{Memory, byte}
use Rattle.psx_base.specs.KernelState.{Heap, KernelState}
use Rattle.kern_layout.specs.Valid.{NoneFreeBoth, Valid}
use Rattle.kern_layout.specs.declared.places.TheConstants.{HEAP_ENTRIES}
use Rattle.abs_kernel.specs.Stay.{Stay}
use Rattle.abs_kernel.specs.Answered.{registers_of}
use Rattle.abs_kernel.specs.Heap.{Block, rounded, fits, used_size}
use Rattle.abs_kernel.specs.Malloc.{malloc}
use Rattle.abs_kernel.specs.Free.{free}
use Rattle.abs_kernel.specs.Calloc.{calloc}
use Rattle.abs_kernel.specs.Realloc.{realloc}
use Rattle.abs_kernel.specs.InitHeap.{base_of, size_of, init_heap}
use Rattle.abs_kernel.specs.HeapCalls.{HeapCall, Malloc, Free, Calloc, Realloc, step, since}
use Rattle.abs_kernel.specs.Changes.{Part, AndHeap, AndHeapMemory, changed}
use Rattle.abs_kernel.specs.KernelStep.{stay_of}
use Rattle.abs_kernel.specs.StayLaws.{EachEnd, EachReturn}

-- ---- the stays of the calls

-- a stay that returns makes a step
abbrev pub Makes : KernelState → HeapCall → Stay → Type 0
Makes s c stay = EachReturn (λ t. (t.heap ≡ (step c s.heap).heap) × (registers_of t).r2 ≡ (step c s.heap).answer) stay

-- with the arguments in the registers
pub record MakeSteps (s : KernelState) : Type 0 where
  pub malloc : Makes s (Malloc (registers_of s).r4) (malloc s)
  pub free : Makes s (Free (registers_of s).r4) (free s)
  pub calloc : Makes s (Calloc (registers_of s).r4 (registers_of s).r5) (calloc s)
  pub realloc : Makes s (Realloc (registers_of s).r4 (registers_of s).r5) (realloc s)

abbrev pub CallsMakeSteps : Type 0
CallsMakeSteps = (s : KernelState) → MakeSteps s

-- InitHeap(p, n) returns where all bytes are user memory
abbrev pub IsSet : (p n : ℕ) → Type 0
IsSet p n = first_bad_of (base_of p) (size_of p n) ≡ None

abbrev pub InitHeapSets : Type 0
InitHeapSets = (s : KernelState) → let r = registers_of s in EachReturn (λ t. IsSet r.r4 r.r5 × (t.heap ≡ since r.r4 r.r5 []) × (registers_of t).r2 ≡ 0) (init_heap s)

-- All other calls, and what else enters the kernel, leave the heap as it is. A step of user code has no heap: user memory is no part of it.
abbrev pub changes_heap : Part → Bool
changes_heap AndHeap = true
changes_heap AndHeapMemory = true
changes_heap _ = false

abbrev pub OthersKeepHeap : Type 0
OthersKeepHeap = (s : KernelState) (code : ℕ) → changes_heap (changed s code) ≡ false → EachReturn (λ t. t.heap ≡ s.heap) (stay_of s code)

-- ---- the blocks

-- the used block at p has k bytes
abbrev pub IsUsed : (p k : ℕ) → Heap → Type 0
IsUsed p k h = used_size p h.base h.blocks ≡ Some k

-- nothing is used at p
abbrev pub IsUnused : (p : ℕ) → Heap → Type 0
IsUnused p h = used_size p h.base h.blocks ≡ None

-- the sizes always sum to the heap's, whose base stays
abbrev pub SizesSum : Type 0
SizesSum = (p n : ℕ) (cs : List HeapCall) → let h = since p n cs in (h.base ≡ base_of p) × (sum_by (λ (b : Block). b.0) h.blocks ≡ size_of p n)

-- of two neighbours one is used, so what is free is joined on both sides, and the table has room for all
abbrev pub FreeIsJoined : Type 0
FreeIsJoined = (p n : ℕ) (cs : List HeapCall) → IsSet p n → NoneFreeBoth (since p n cs).blocks × length (since p n cs).blocks ≤ HEAP_ENTRIES

-- a used block lies inside the heap, at a multiple of 8, and has a size above 0
pub record Inside (p n at k : ℕ) : Type 0 where
  pub above : base_of p ≤ at
  pub below : at + k ≤ base_of p + size_of p n
  pub place : at % 8 ≡ 0
  pub size : k % 8 ≡ 0
  pub some : 0 < k

abbrev pub UsedLieInside : Type 0
UsedLieInside = (p n : ℕ) (cs : List HeapCall) (at k : ℕ) → IsSet p n → IsUsed at k (since p n cs) → Inside p n at k

-- two used blocks don't overlap
abbrev pub UsedLieApart : Type 0
UsedLieApart = (p n : ℕ) (cs : List HeapCall) (a b k j : ℕ) → IsUsed a k (since p n cs) → IsUsed b j (since p n cs) → a < b → a + k ≤ b

-- ---- what calls keep

-- a call that doesn't free the block at p
abbrev pub Spares : (p : ℕ) → HeapCall → Type 0
Spares p (Malloc n) = Unit {0}
Spares p (Free q) = q ≢ p
Spares p (Calloc a b) = Unit {0}
Spares p (Realloc q n) = q ≢ p

-- a block keeps its place and size until it is freed
abbrev pub UsedAreKept : Type 0
UsedAreKept = (p n : ℕ) (before after : List HeapCall) (at k : ℕ) → IsUsed at k (since p n before) → All (Spares at) after → IsUsed at k (since p n (before ++ after))

-- free(at) leaves nothing used there
abbrev pub FreedIsUnused : Type 0
FreedIsUnused = (p n : ℕ) (cs : List HeapCall) (at : ℕ) → IsSet p n → IsUnused at (step (Free at) (since p n cs)).heap

-- the size that a call asks for
abbrev pub asked_size : HeapCall → ℕ
asked_size (Malloc n) = n
asked_size (Free p) = 0
asked_size (Calloc a b) = a * b
asked_size (Realloc p n) = n

-- where a call gives a block, none was used there, and then one of the rounded size is
abbrev pub GivenIsUsed : Type 0
GivenIsUsed =
    (p n : ℕ) (cs : List HeapCall) (c : HeapCall) → IsSet p n → let h = since p n cs in let t = step c h in t.answer ≢ 0 → IsUnused t.answer h × IsUsed t.answer (rounded (asked_size c)) t.heap

-- and realloc freed the old one
abbrev pub ReallocFrees : Type 0
ReallocFrees = (p n : ℕ) (cs : List HeapCall) (q k : ℕ) → IsSet p n → let h = since p n cs in let t = step (Realloc q k) h in t.answer ≢ 0 → q ≢ 0 → IsUnused q t.heap

-- free of what malloc just gave, with no call between, gives the blocks back
abbrev pub FreeUndoes : Type 0
FreeUndoes = (p n : ℕ) (cs : List HeapCall) (k : ℕ) → IsSet p n → let h = since p n cs in let t = step (Malloc k) h in (step (Free t.answer) t.heap).heap ≡ h

-- ---- when nothing is given

-- no size, no free block that is large enough, or the first that is must be split and the table is full
abbrev pub NoneFor : (n : ℕ) → Heap → Type 0
NoneFor n h =
    (n ≡ 0) ⊎ ((0xFFFFFFF8 < n) ⊎ ((find (fits (rounded n)) h.blocks ≡ None)
    ⊎ ((b : Block) × (find (fits (rounded n)) h.blocks ≡ Some b) × (b.0 ≢ rounded n) × (length h.blocks ≡ HEAP_ENTRIES))))

abbrev pub MallocAnswersZero : Type 0
MallocAnswersZero = (p n : ℕ) (cs : List HeapCall) (k : ℕ) → IsSet p n → let h = since p n cs in (step (Malloc k) h).answer ≡ 0 ↔ NoneFor k h

-- ---- no stop

-- from a valid state the calls of the heap return, but for InitHeap
abbrev pub Never : Stop → Memory → Type 0
Never stop memory = ⊥

pub record EachReturns (s : KernelState) : Type 0 where
  pub malloc : EachEnd (λ t. Unit {0}) Never (malloc s)
  pub free : EachEnd (λ t. Unit {0}) Never (free s)
  pub calloc : EachEnd (λ t. Unit {0}) Never (calloc s)
  pub realloc : EachEnd (λ t. Unit {0}) Never (realloc s)

abbrev pub CallsReturn : Type 0
CallsReturn = (s : KernelState) → Valid s → EachReturns s

-- ---- the bytes of a block

-- n bytes from an address on are these, and every other byte is as before
pub record Wrote (before : Memory) (at n : ℕ) (value : ℕ → ℕ) (m : Memory) : Type 0 where
  pub bytes : (i : ℕ) → i < n → byte m (place (at + i)) ≡ value i
  pub others : (p : ℕ) → ((i : ℕ) → i < n → p ≢ place (at + i)) → byte m p ≡ byte before p

-- where calloc gives a block, its bytes that were asked for are 0
abbrev pub CallocClears : Type 0
CallocClears =
    (s : KernelState) → Valid s → let r = registers_of s in EachReturn (λ t. let at = (registers_of t).r2 in at ≢ 0 → Wrote s.memory at (r.r4 * r.r5) (λ i. 0) t.memory) (calloc s)

-- where realloc gives a block for one of k bytes, it has its bytes, up to the lesser size
abbrev pub ReallocCopies : Type 0
ReallocCopies =
    (s : KernelState) (k : ℕ) → Valid s → let r = registers_of s in IsUsed r.r4 k s.heap
    → EachReturn (λ t. let at = (registers_of t).r2 in at ≢ 0 → Wrote s.memory at (min r.r5 k) (λ i. byte s.memory (place (r.r4 + i)) % 2 ^ 8) t.memory) (realloc s)
