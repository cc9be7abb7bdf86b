-- The words of a listing, counted node by node.
use Rattle.std.proofs.Common.{◌≡◌, ℕ, ◌+◌, ◌*◌, ◌≤◌, List, [], ◌∷◌, length, take, refl, sym, ap, ◌∙◌, IsTrue, arith}
use Rattle.std.specs.Prelude.{sum_by}
use Rattle.std.proofs.lemmas.List.Sums.{sum_by-cons}
use Rattle.std.proofs.lemmas.List.{take_all}
use Rattle.psx_flow.specs.declared.node.Node.{Node}
use Rattle.psx_flow.specs.declared.node.Node.TheVariants.{Other, End}
use Rattle.psx_flow.specs.Tree.{Tree, Stop, Do, When, Choose, Loop, Visit, Go, GoTo, flat, size}
use Rattle.psx_flow.specs.Well.{IsWell, is_well}
use Rattle.psx_flow.specs.Nodes.{weight}
use Rattle.psx_flow.proofs.BodySteps.{well_means}

abbrev total : List Node → ℕ
total [] = 0
total (n ∷ ns) = weight n + total ns

total_is : (ns : List Node) → sum_by weight ns ≡ total ns
total_is [] = refl
total_is (n ∷ ns) = sum_by-cons weight n ns ∙ ap (λ x. weight n + x) (total_is ns)

-- the words of a tree's nodes are the tree's
weights : (T : Tree) (k : List Node) → total (flat T k) ≡ size T + total k
weights Stop k = omega arith
weights (Do i r) k = omega (arith, weights r k)
weights (When t a r) k = omega (arith, weights a (End ∷ flat r k), weights r k)
weights (Choose t a b r) k = omega (arith, weights a (Other ∷ flat b (End ∷ flat r k)), weights b (End ∷ flat r k), weights r k)
weights (Loop t a r) k = omega (arith, weights a (End ∷ flat r k), weights r k)
weights (Visit a r) k = omega (arith, weights r k)
weights (Go a r) k = omega (arith, weights r k)
weights (GoTo n r) k = omega (arith, weights r k)

-- at most two words a node
at_most_two : (T : Tree) (k : List Node) → size T + 2 * length k ≤ 2 * length (flat T k)
at_most_two Stop k = omega arith
at_most_two (Do i r) k = omega (arith, at_most_two r k)
at_most_two (When t a r) k = omega (arith, at_most_two a (End ∷ flat r k), at_most_two r k)
at_most_two (Choose t a b r) k = omega (arith, at_most_two a (Other ∷ flat b (End ∷ flat r k)), at_most_two b (End ∷ flat r k), at_most_two r k)
at_most_two (Loop t a r) k = omega (arith, at_most_two a (End ∷ flat r k), at_most_two r k)
at_most_two (Visit a r) k = omega (arith, at_most_two r k)
at_most_two (Go a r) k = omega (arith, at_most_two r k)
at_most_two (GoTo n r) k = omega (arith, at_most_two r k)

-- the words of nodes that a tree is spelled by
pub size_is : (T : Tree) (nodes : List Node) → flat T [] ≡ nodes → sum_by weight nodes ≡ size T
size_is T nodes e = total_is nodes ∙ (ap total (sym e) ∙ (weights T [] ∙ omega arith))

small_by : (nodes : List Node) → IsWell nodes → sum_by weight nodes ≤ 2 * length nodes
small_by nodes w =
    omega (arith, size_is w.tree nodes w.spelled, at_most_two w.tree [], ap (λ (l : List Node). length l) w.spelled)

pub size_small : (nodes : List Node) → IsTrue (is_well nodes) → sum_by weight nodes ≤ 2 * length nodes
size_small nodes h = small_by nodes (well_means nodes h)

pub counted : (nodes : List Node) (i sum : ℕ) → length nodes ≤ i → sum ≡ sum_by weight (take i nodes) → sum ≡ sum_by weight nodes
counted nodes i sum h e = e ∙ ap (sum_by weight) (take_all i nodes h)
