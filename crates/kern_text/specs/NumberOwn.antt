-- The listings of the crate's own range that the routines that read a number call.
use Rattle.std.specs.Prelude.{ℕ, List, [], ◌∷◌}
use Rattle.psx_flow.specs.Tree.{Tree}
use Rattle.kern_stay.specs.Shared.{tree}
use Rattle.kern_stay.specs.declared.room.TheConstants.{ROOM_NODES}
use Rattle.kern_text.specs.declared.places.TheConstants.{ROOM, BLANKS, PREFIX, DIGITS}
use Rattle.kern_text.specs.declared.blanks.TheConstants.{BLANKS_NODES}
use Rattle.kern_text.specs.declared.prefix.TheConstants.{PREFIX_NODES}
use Rattle.kern_text.specs.declared.digits.TheConstants.{DIGITS_NODES}

abbrev pub number_own : List (ℕ × Tree)
number_own = (ROOM, tree ROOM_NODES) ∷ (BLANKS, tree BLANKS_NODES) ∷ (PREFIX, tree PREFIX_NODES) ∷ (DIGITS, tree DIGITS_NODES) ∷ []
