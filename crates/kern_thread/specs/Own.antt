-- The listings of the crate's own range that its routines call.
use Rattle.std.specs.Prelude.{ℕ, List, [], ◌∷◌}
use Rattle.psx_flow.specs.Tree.{Tree}
use Rattle.kern_stay.specs.Shared.{tree}
use Rattle.kern_stay.specs.declared.copy_half.TheConstants.{COPY_HALF_NODES}
use Rattle.kern_thread.specs.declared.places.TheConstants.{COPY_HALF}

abbrev pub own : List (ℕ × Tree)
own = (COPY_HALF, tree COPY_HALF_NODES) ∷ []
