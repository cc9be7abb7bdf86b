-- The heap's blocks as a linked table. An entry has the next one's address at 0, so a list is read from the address of the word that names its first entry: a variable, or an entry.
use Rattle.std.specs.Prelude.{◌≡◌, ◌⊎◌, ℕ, zero, suc, ◌+◌, ◌-◌, ◌*◌, ◌%◌, ◌<◌, ◌≤◌, Bool, List, [], ◌∷◌, length, if◌then◌else◌}
use Rattle.psx_base.specs.KernelState.{Heap}
use Rattle.kern_layout.specs.Fields.{Fields, Block}
use Rattle.kern_layout.specs.declared.places.TheConstants.{WORK_AREA, HEAP_ENTRIES, HEAP_ENTRY_SIZE, HEAP_BLOCK_SIZE, HEAP_BLOCK_USED, HEAP_FIRST, HEAP_SPARE}
use Rattle.kern_layout.specs.Numbers.{threads_at, heap_table_at}

-- an entry's address
abbrev pub IsEntry : ℕ → Type 0
IsEntry e = (k : ℕ) × (k < HEAP_ENTRIES) × (e ≡ heap_table_at + HEAP_ENTRY_SIZE * k)

-- the size and use of a block, in its entry
abbrev pub entry_fields : ℕ × Bool → Fields
entry_fields b = (HEAP_BLOCK_SIZE, b.0) ∷ (HEAP_BLOCK_USED, if b.1 then 1 else 0) ∷ []

-- the entries from the one that the word at `cell` names are these blocks, in order
abbrev pub Linked : (ℕ → ℕ) → ℕ → List (ℕ × Bool) → Type 0
Linked w cell [] = w cell ≡ 0
Linked w cell (b ∷ bs) = IsEntry (w cell) × Block w (w cell) (entry_fields b) × Linked w (w cell) bs

-- so many spare entries follow from there, each with the size 0
abbrev pub Spare : (ℕ → ℕ) → ℕ → ℕ → Type 0
Spare w cell zero = w cell ≡ 0
Spare w cell (suc n) = IsEntry (w cell) × (w (w cell + HEAP_BLOCK_SIZE) ≡ 0) × Spare w (w cell) n

-- the blocks are linked from one variable, and all other entries from another
pub record HeapAt (w : ℕ → ℕ) (h : Heap) : Type 0 where
  pub blocks : Linked w HEAP_FIRST h.blocks
  pub spare : Spare w HEAP_SPARE (HEAP_ENTRIES - length h.blocks)

-- the word from which the list goes on behind n entries: at first the word that names its first entry, then the entries themselves
abbrev pub cell_at : (ℕ → ℕ) → ℕ → ℕ → ℕ
cell_at w cell zero = cell
cell_at w cell (suc n) = cell_at w (w cell) n

-- Of the words of the data ranges only the one at d, the three of the entry e, and the one that names the first spare entry are written.
abbrev pub LinksWritten : (w x : ℕ → ℕ) (d e : ℕ) → Type 0
LinksWritten w x d e = (a : ℕ) → a % 4 ≡ 0 → threads_at ≤ a → a < WORK_AREA → (a ≡ d → ⊥) → (a ≡ HEAP_SPARE → ⊥) → (a < e) ⊎ (e + HEAP_ENTRY_SIZE ≤ a) → x a ≡ w a
