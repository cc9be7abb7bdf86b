-- The listings of the crate's own range that the routines with a set of bytes call.
use Rattle.std.specs.Prelude.{ℕ, List, [], ◌∷◌}
use Rattle.psx_flow.specs.Tree.{Tree}
use Rattle.kern_stay.specs.Shared.{tree}
use Rattle.kern_stay.specs.declared.room.TheConstants.{ROOM_NODES}
use Rattle.kern_text.specs.declared.places.TheConstants.{ROOM, SKIP}
use Rattle.kern_text.specs.declared.skip.TheConstants.{SKIP_NODES}

abbrev pub set_own : List (ℕ × Tree)
set_own = (ROOM, tree ROOM_NODES) ∷ (SKIP, tree SKIP_NODES) ∷ []
