-- The listings of the crate's own range that its routines call, each of which calls only those behind it.
use Rattle.std.specs.Prelude.{ℕ, List, [], ◌∷◌}
use Rattle.psx_flow.specs.Tree.{Tree}
use Rattle.kern_stay.specs.Shared.{tree}
use Rattle.kern_stay.specs.declared.room.TheConstants.{ROOM_NODES}
use Rattle.kern_heap.specs.declared.places.TheConstants.{ROOM, ALLOT, RELEASE, FIND, JOIN}
use Rattle.kern_heap.specs.declared.allot.TheConstants.{ALLOT_NODES}
use Rattle.kern_heap.specs.declared.release.TheConstants.{RELEASE_NODES}
use Rattle.kern_heap.specs.declared.find.TheConstants.{FIND_NODES}
use Rattle.kern_heap.specs.declared.join.TheConstants.{JOIN_NODES}

abbrev pub own : List (ℕ × Tree)
own = (ROOM, tree ROOM_NODES) ∷ (ALLOT, tree ALLOT_NODES) ∷ (RELEASE, tree RELEASE_NODES) ∷ (FIND, tree FIND_NODES) ∷ (JOIN, tree JOIN_NODES) ∷ []
