-- Words at their places, by addresses in bytes.
use Rattle.std.specs.Prelude.{◌≡◌, ℕ, ◌+◌, ◌-◌, ◌*◌, ◌/◌, ◌%◌, ◌^◌, ◌<◌, List, [], ◌∷◌, length, slice_index, if◌then◌else◌, ◌&&◌, nat_lt, nat_le, IsTrue}
use Rattle.psx_flow.specs.declared.node.Node.{Node}
use Rattle.psx_flow.specs.Tree.{size}
use Rattle.psx_flow.specs.Lowered.{lowered}
use Rattle.kern_stay.specs.Shared.{tree}

-- these words from an address on, and elsewhere as before
unfoldable pub over : ℕ → List ℕ → (ℕ → ℕ) → ℕ → ℕ
over at words f a = if nat_le at a && nat_lt a (at + 4 * length words) then slice_index words ((a - at) / 4) else f a

-- pieces of words with their addresses, the first one uppermost
abbrev pub overlaid : List (ℕ × List ℕ) → (ℕ → ℕ) → ℕ → ℕ
overlaid [] f = f
overlaid (p ∷ ps) f = over p.0 p.1 (overlaid ps f)

-- a listing that runs at an address of the cached segment stands at the physical one
abbrev pub listing : (at : ℕ) → List Node → ℕ × List ℕ
listing at nodes = (at % 2 ^ 29, lowered (tree nodes) at)

-- a listing ends where the next one begins, or before it
abbrev pub EndsBy : (at : ℕ) → List Node → (next : ℕ) → Type 0
EndsBy at nodes next = IsTrue (nat_le (at + 4 * size (tree nodes)) next)

-- each piece's words stand at its address
abbrev pub Stand : (ℕ → ℕ) → List (ℕ × List ℕ) → Type 0
Stand w [] = Unit {0}
Stand w (p ∷ ps) = ((k : ℕ) → k < length p.1 → w (p.0 + 4 * k) ≡ slice_index p.1 k) × Stand w ps
