-- The listings of `tested` as trees.
use Rattle.std.specs.Prelude.{unwrap_or}
use Rattle.psx_flow.specs.declared.kinds.Tested.{Tested}
use Rattle.psx_flow.specs.Tree.{Tree, Stop}
use Rattle.psx_flow.specs.Reading.{tree_of}
use Rattle.psx_flow.specs.Tested.{listing}

-- the tree that a listing spells
abbrev pub tree : Tested → Tree
tree kind = unwrap_or (tree_of (listing kind)) Stop
