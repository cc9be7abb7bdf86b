-- The tree of nodes that are a listing.
use Rattle.std.proofs.Common.{◌≡◌, ◌≤◌, ℕ, take, length, arith, Option, Some, None, List, [], IfSome, IsTrue, refl}
use Rattle.std.specs.Prelude.{unwrap_or}
use Rattle.std.proofs.lemmas.Bool.{false≢true}
use Rattle.std.proofs.lemmas.List.{length-take}
use Rattle.psx_flow.specs.declared.node.Node.{Node}
use Rattle.psx_flow.specs.Tree.{Tree, Stop, flat}
use Rattle.psx_flow.specs.Reading.{tree_of}
use Rattle.psx_flow.specs.Well.{is_well_tree, is_well}
use Rattle.psx_flow.proofs.TreeRead.{read_tree}
use Rattle.kern_stay.specs.Shared.{tree}

there : (o : Option Tree) → IsTrue (is_well_tree o) → o ≡ Some (unwrap_or o Stop)
there None h = absurd (false≢true h)
there (Some T) h = refl

pub spelled : (nodes : List Node) → IsTrue (is_well nodes) → flat (tree nodes) [] ≡ nodes
spelled nodes h = read_tree nodes (tree nodes) (there (tree_of nodes) h)

pub if_some : (o : Option Tree) (P : Tree → Type 0) → P (unwrap_or o Stop) → IfSome o P
if_some None P h = tt
if_some (Some T) P h = h

pub front : (n : ℕ) (xs : List ℕ) → n ≤ length xs → n ≡ length (take n xs)
front n xs h = omega (arith, length-take n xs)
