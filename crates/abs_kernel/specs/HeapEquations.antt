-- The calls of the heap evaluated, one after the other from InitHeap on.
use Rattle.std.specs.Prelude.{◌≡◌, true, false, List, [], ◌∷◌}
use Rattle.psx_base.specs.KernelState.{Heap}
use Rattle.abs_kernel.specs.InitHeap.{base_of, size_of}
use Rattle.abs_kernel.specs.HeapCalls.{HeapCall, Malloc, Free, Calloc, Realloc, answers, since}

-- a heap of 64 bytes
abbrev pub small : List HeapCall → Heap
small cs = since 0x80100000 64 cs

-- The first free block is split, and again; a third one of 24 bytes isn't there. An address inside a block frees nothing. Two blocks that are freed are one with the rest.
abbrev pub FirstFit : Type 0
FirstFit =
    answers (Malloc 24 ∷ Malloc 24 ∷ Malloc 24 ∷ Free 0x80100008 ∷ Free 0x80100000 ∷ Free 0x80100018 ∷ Malloc 48 ∷ []) (small [])
    ≡ 0x80100000 ∷ 0x80100018 ∷ 0 ∷ 0 ∷ 0 ∷ 0 ∷ 0x80100000 ∷ []

-- A product that doesn't fit a word gives nothing. The new block is taken while the old one is used.
abbrev pub NewBlocks : Type 0
NewBlocks = answers (Calloc 0x10000 0x10000 ∷ Realloc 0 8 ∷ Realloc 0x80100000 40 ∷ []) (small []) ≡ 0 ∷ 0x80100000 ∷ 0x80100008 ∷ []

-- a free block between two free ones is one with both
abbrev pub Joined : Type 0
Joined = (small (Malloc 8 ∷ Malloc 8 ∷ Malloc 8 ∷ Malloc 8 ∷ Free 0x80100000 ∷ Free 0x80100010 ∷ [])).blocks ≡ (8, false) ∷ (8, true) ∷ (8, false) ∷ (8, true) ∷ (32, false) ∷ []

abbrev pub JoinedBoth : Type 0
JoinedBoth = (small (Malloc 8 ∷ Malloc 8 ∷ Malloc 8 ∷ Malloc 8 ∷ Free 0x80100000 ∷ Free 0x80100010 ∷ Free 0x80100008 ∷ [])).blocks ≡ (24, false) ∷ (8, true) ∷ (32, false) ∷ []

-- sizes are rounded up to 8: 1 and 8 take 8 bytes, and 9 takes 16
abbrev pub Rounded : Type 0
Rounded =
    answers (Malloc 1 ∷ Malloc 8 ∷ Malloc 9 ∷ Malloc 0xFFFFFFF8 ∷ Malloc 0xFFFFFFF9 ∷ Malloc 0 ∷ Malloc 32 ∷ Malloc 1 ∷ []) (small [])
    ≡ 0x80100000 ∷ 0x80100008 ∷ 0x80100010 ∷ 0 ∷ 0 ∷ 0 ∷ 0x80100020 ∷ 0 ∷ []

-- realloc of a size 0 is free, also of what isn't used, and of what isn't used gives nothing
abbrev pub Reallocated : Type 0
Reallocated =
    answers (Malloc 32 ∷ Malloc 32 ∷ Realloc 0x80100008 0 ∷ Realloc 0x80100000 0 ∷ Realloc 0x80100000 8 ∷ Realloc 0x80100020 40 ∷ Realloc 0x80100020 8 ∷ []) (small [])
    ≡ 0x80100000 ∷ 0x80100020 ∷ 0 ∷ 0 ∷ 0 ∷ 0 ∷ 0x80100000 ∷ []

-- p is rounded up, also past the last address, and n loses what that takes
abbrev pub Bases : Type 0
Bases = (base_of 0x80100001 ≡ 0x80100008) × (base_of 0x80100008 ≡ 0x80100008) × (base_of 0xFFFFFFF9 ≡ 0) × (base_of 0xFFFFFFFF ≡ 0)

abbrev pub Sizes : Type 0
Sizes = (size_of 0x80100000 64 ≡ 64) × (size_of 0x80100001 64 ≡ 56) × (size_of 0x80100001 15 ≡ 8) × (size_of 0x80100001 14 ≡ 0) × (size_of 0x80100001 6 ≡ 0) × (size_of 0xFFFFFFF9 7 ≡ 0)

abbrev pub NoSize : Type 0
NoSize = ((since 0x80100001 6 []).blocks ≡ []) × (answers (Malloc 8 ∷ Free 0x80100008 ∷ []) (since 0x80100001 6 []) ≡ 0 ∷ 0 ∷ [])
