-- The listings of the entry that each routine may call, with their addresses.
use Rattle.std.specs.Prelude.{ℕ, List, [], ◌∷◌, unwrap_or}
use Rattle.psx_flow.specs.declared.kinds.Tested.TheVariants.{ReadByte, WriteByte, ReadWord, WriteWord}
use Rattle.psx_flow.specs.declared.node.Node.{Node}
use Rattle.psx_flow.specs.Tree.{Tree, Stop}
use Rattle.psx_flow.specs.Reading.{tree_of}
use Rattle.psx_flow.specs.Tested.{listing}
use Rattle.kern_stay.specs.declared.places.TheConstants as place

-- the tree that nodes spell
abbrev pub tree : List Node → Tree
tree nodes = unwrap_or (tree_of nodes) Stop

-- the four accesses to user memory
abbrev pub tested_there : List (ℕ × Tree)
tested_there = (place.READ_BYTE, tree (listing ReadByte)) ∷ (place.WRITE_BYTE, tree (listing WriteByte)) ∷ (place.READ_WORD, tree (listing ReadWord)) ∷ (place.WRITE_WORD, tree (listing WriteWord)) ∷ []
