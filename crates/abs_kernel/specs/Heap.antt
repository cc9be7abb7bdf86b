-- The heap's blocks (PSX-SPX, Kernel (BIOS), Memory Allocation). A block is its size and whether it is used.
-- Its address is the base and the sum of the sizes before it. `at` is the address of the first block of a list.
use Rattle.std.specs.Prelude.{ℕ, ◌+◌, ◌-◌, ◌*◌, ◌/◌, Bool, true, false, not, ◌&&◌, ◌||◌, nat_eq, nat_lt, nat_le, List, [], ◌∷◌, length, Option, Some, None, if◌then◌else◌}
use Rattle.psx_base.specs.KernelState.{Heap, KernelState}
use Rattle.kern_layout.specs.declared.places.TheConstants.{HEAP_ENTRIES}

abbrev pub Block : Type 0
Block = ℕ × Bool

abbrev pub Blocks : Type 0
Blocks = List Block

-- a size rounded up to a multiple of 8
abbrev pub rounded : ℕ → ℕ
rounded n = (n + 7) / 8 * 8

-- ---- to allocate

-- a block that is given: its address, and the blocks then
pub record Given : Type 0 where
  pub at : ℕ
  pub blocks : Blocks

-- a free block that has n bytes
abbrev pub fits : (n : ℕ) → Block → Bool
fits n b = not b.1 && nat_le n b.0

-- n bytes of such a block b, with the blocks behind it. The whole block is used; a larger one is split, which takes a spare entry.
abbrev pub splits : (n at : ℕ) (spare : Bool) → Block → Blocks → Option Given
splits n at spare b bs =
    if nat_eq b.0 n then Some (record { at = at; blocks = (n, true) ∷ bs })
    else if spare then Some (record { at = at; blocks = (n, true) ∷ (b.0 - n, false) ∷ bs })
    else None

-- the same with a block before
abbrev pub behind : Block → Option Given → Option Given
behind b None = None
behind b (Some g) = Some (record g { blocks = b ∷ g.blocks })

-- n bytes of the first block that fits
abbrev pub allots : (n at : ℕ) (spare : Bool) → Blocks → Option Given
allots n at spare [] = None
allots n at spare (b ∷ bs) = if fits n b then splits n at spare b bs else behind b (allots n (at + b.0) spare bs)

-- whether an entry of the table is spare
abbrev pub has_spare : Heap → Bool
has_spare h = nat_lt (length h.blocks) HEAP_ENTRIES

-- n bytes of the heap: none for 0, and none for a size that can't be rounded
abbrev pub allocates : Heap → (n : ℕ) → Option Given
allocates h n = if nat_eq n 0 || nat_lt 0xFFFFFFF8 n then None else allots (rounded n) h.base (has_spare h) h.blocks

-- ---- to free

-- the size of the used block at p
abbrev pub used_size : (p at : ℕ) → Blocks → Option ℕ
used_size p at [] = None
used_size p at (b ∷ bs) = if nat_eq at p then (if b.1 then Some b.0 else None) else used_size p (at + b.0) bs

-- a block before others: it and the first of them are one where both are free
abbrev pub joins : Block → Blocks → Blocks
joins b [] = b ∷ []
joins b (c ∷ cs) = if b.1 || c.1 then b ∷ c ∷ cs else (b.0 + c.0, false) ∷ cs

-- the block at p becomes free, and is joined with the one behind it; then each block before it with what is behind it
abbrev pub releases : (p at : ℕ) → Blocks → Blocks
releases p at [] = []
releases p at (b ∷ bs) = if nat_eq at p then joins (b.0, false) bs else joins b (releases p (at + b.0) bs)

-- the blocks where nothing is used at p, and where a block is
abbrev pub frees_by : (p : ℕ) → Heap → Option ℕ → Blocks
frees_by p h None = h.blocks
frees_by p h (Some size) = releases p h.base h.blocks

abbrev pub frees : (p : ℕ) → Heap → Blocks
frees p h = frees_by p h (used_size p h.base h.blocks)

-- ---- the kernel's state

-- with other blocks
abbrev pub with_blocks : KernelState → Blocks → KernelState
with_blocks s blocks = record s { heap = record s.heap { blocks = blocks } }

-- with the block at p freed
abbrev pub with_freed_block : KernelState → (p : ℕ) → KernelState
with_freed_block s p = with_blocks s (frees p s.heap)
