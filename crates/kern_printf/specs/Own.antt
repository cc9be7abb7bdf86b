-- The listings of the crate's own range that its routines call.
use Rattle.std.specs.Prelude.{ℕ, List, [], ◌∷◌}
use Rattle.psx_flow.specs.Tree.{Tree}
use Rattle.kern_stay.specs.Shared.{tree}
use Rattle.kern_stay.specs.declared.room.TheConstants.{ROOM_NODES}
use Rattle.kern_printf.specs.declared.places.TheConstants.{ROOM}

abbrev pub own : List (ℕ × Tree)
own = (ROOM, tree ROOM_NODES) ∷ []
