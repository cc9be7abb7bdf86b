-- The listings of the entry's range that those of frames call.
use Rattle.std.specs.Prelude.{ℕ, List, [], ◌∷◌}
use Rattle.psx_flow.specs.Tree.{Tree}
use Rattle.kern_stay.specs.Shared.{tree}
use Rattle.kern_stay.specs.declared.copy.TheConstants.{COPY_NODES}
use Rattle.kern_stay.specs.declared.copy_half.TheConstants.{COPY_HALF_NODES}
use Rattle.kern_entry.specs.declared.places.TheConstants.{COPY, COPY_HALF}

abbrev pub frames_own : List (ℕ × Tree)
frames_own = (COPY_HALF, tree COPY_HALF_NODES) ∷ (COPY, tree COPY_NODES) ∷ []
