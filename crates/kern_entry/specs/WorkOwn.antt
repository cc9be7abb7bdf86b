-- The listings of the entry's range that WORK calls, each of which calls only those behind it.
use Rattle.std.specs.Prelude.{ℕ, List, [], ◌∷◌}
use Rattle.psx_flow.specs.Tree.{Tree}
use Rattle.kern_stay.specs.Shared.{tree}
use Rattle.kern_entry.specs.declared.places.TheConstants.{ELEMENTS, SCAN}
use Rattle.kern_entry.specs.declared.elements.TheConstants.{ELEMENTS_NODES}
use Rattle.kern_entry.specs.declared.scan.TheConstants.{SCAN_NODES}

abbrev pub work_own : List (ℕ × Tree)
work_own = (ELEMENTS, tree ELEMENTS_NODES) ∷ (SCAN, tree SCAN_NODES) ∷ []
