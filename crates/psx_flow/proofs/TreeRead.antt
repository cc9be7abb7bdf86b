-- What is read from the flat list of a tree is that tree, and what is read as a tree is its flat list.
use Rattle.std.proofs.Common.{◌≡◌, List, [], ◌∷◌, Some, refl, sym, ap, ◌∙◌}
use Rattle.psx_flow.specs.declared.node.Test.{Test}
use Rattle.psx_flow.specs.declared.node.Node.{Node}
use Rattle.psx_flow.specs.declared.node.Node.TheVariants.{Op, If, Other, While, End, Call, Jump, JumpTo}
use Rattle.psx_flow.specs.Tree.{Tree, Stop, Do, When, Choose, Loop, Visit, Go, GoTo, flat}
use Rattle.psx_flow.specs.Reading.{Reading, Fails, Whole, ToOther, ToEnd, on_first, after_if, after_while, reading, whole, tree_of}

-- a tree with another in its Stop's place
abbrev before : Tree → Tree → Tree
before Stop U = U
before (Do i r) U = Do i (before r U)
before (When t a r) U = When t a (before r U)
before (Choose t a b r) U = Choose t a b (before r U)
before (Loop t a r) U = Loop t a (before r U)
before (Visit a r) U = Visit a (before r U)
before (Go a r) U = Go a (before r U)
before (GoTo n r) U = GoTo n (before r U)

before_stop : (T : Tree) → before T Stop ≡ T
before_stop Stop = refl
before_stop (Do i r) = ap (Do i) (before_stop r)
before_stop (When t a r) = ap (When t a) (before_stop r)
before_stop (Choose t a b r) = ap (Choose t a b) (before_stop r)
before_stop (Loop t a r) = ap (Loop t a) (before_stop r)
before_stop (Visit a r) = ap (Visit a) (before_stop r)
before_stop (Go a r) = ap (Go a) (before_stop r)
before_stop (GoTo n r) = ap (GoTo n) (before_stop r)

on_first_same : (r : Reading) → on_first (λ T. T) r ≡ r
on_first_same Fails = refl
on_first_same (Whole T) = refl
on_first_same (ToOther T r) = refl
on_first_same (ToEnd T r) = refl

on_first_twice : (f g : Tree → Tree) (r : Reading) → on_first f (on_first g r) ≡ on_first (λ T. f (g T)) r
on_first_twice f g Fails = refl
on_first_twice f g (Whole T) = refl
on_first_twice f g (ToOther T r) = refl
on_first_twice f g (ToEnd T r) = refl

read_flat : (T : Tree) (k : List Node) → reading (flat T k) ≡ on_first (before T) (reading k)
read_flat Stop k = sym (on_first_same (reading k))
read_flat (Do i r) k = ap (on_first (Do i)) (read_flat r k) ∙ on_first_twice (Do i) (before r) (reading k)
read_flat (When t a r) k =
    ap (after_if t) (read_flat a (End ∷ flat r k))
    ∙ (ap (λ A. on_first (When t A) (reading (flat r k))) (before_stop a)
    ∙ (ap (on_first (When t a)) (read_flat r k) ∙ on_first_twice (When t a) (before r) (reading k)))
read_flat (Choose t a b r) k =
    ap (after_if t) (read_flat a (Other ∷ flat b (End ∷ flat r k)))
    ∙ (ap (λ x. after_if t (ToOther (before a Stop) x)) (read_flat b (End ∷ flat r k))
    ∙ (ap (λ A. on_first (Choose t A (before b Stop)) (reading (flat r k))) (before_stop a)
    ∙ (ap (λ B. on_first (Choose t a B) (reading (flat r k))) (before_stop b)
    ∙ (ap (on_first (Choose t a b)) (read_flat r k) ∙ on_first_twice (Choose t a b) (before r) (reading k)))))
read_flat (Loop t a r) k =
    ap (after_while t) (read_flat a (End ∷ flat r k))
    ∙ (ap (λ A. on_first (Loop t A) (reading (flat r k))) (before_stop a)
    ∙ (ap (on_first (Loop t a)) (read_flat r k) ∙ on_first_twice (Loop t a) (before r) (reading k)))
read_flat (Visit a r) k = ap (on_first (Visit a)) (read_flat r k) ∙ on_first_twice (Visit a) (before r) (reading k)
read_flat (Go a r) k = ap (on_first (Go a)) (read_flat r k) ∙ on_first_twice (Go a) (before r) (reading k)
read_flat (GoTo n r) k = ap (on_first (GoTo n)) (read_flat r k) ∙ on_first_twice (GoTo n) (before r) (reading k)

-- the flat list of a tree is read as the tree
pub tree_read : (T : Tree) → tree_of (flat T []) ≡ Some T
tree_read T = ap whole (read_flat T []) ∙ ap (λ U. Some U) (before_stop T)

-- what is read spells a list of nodes
abbrev Spells : Reading → List Node → Type 0
Spells Fails ns = Unit {0}
Spells (Whole T) ns = flat T [] ≡ ns
Spells (ToOther T r) ns = (m : List Node) × (Spells r m × (flat T (Other ∷ m) ≡ ns))
Spells (ToEnd T r) ns = (m : List Node) × (Spells r m × (flat T (End ∷ m) ≡ ns))

on_first_spells : (f : Tree → Tree) (r : Reading) (m ns : List Node) → ((T : Tree) (k : List Node) → flat T k ≡ m → flat (f T) k ≡ ns) → Spells r m → Spells (on_first f r) ns
on_first_spells f Fails m ns h s = tt
on_first_spells f (Whole T) m ns h s = h T [] s
on_first_spells f (ToOther T r) m ns h s = (s.0, (s.1.0, h T (Other ∷ s.0) s.1.1))
on_first_spells f (ToEnd T r) m ns h s = (s.0, (s.1.0, h T (End ∷ s.0) s.1.1))

if_spells : (t : Test) (r : Reading) (ns : List Node) → Spells r ns → Spells (after_if t r) (If t ∷ ns)
if_spells t Fails ns s = tt
if_spells t (Whole T) ns s = tt
if_spells t (ToEnd a r) ns s = on_first_spells (When t a) r s.0 (If t ∷ ns) (λ T k e. ap (λ l. If t ∷ flat a (End ∷ l)) e ∙ ap (λ l. If t ∷ l) s.1.1) s.1.0
if_spells t (ToOther a Fails) ns s = tt
if_spells t (ToOther a (Whole T)) ns s = tt
if_spells t (ToOther a (ToOther b r)) ns s = tt
if_spells t (ToOther a (ToEnd b r)) ns s =
    let q = s.1.0 in
    on_first_spells (Choose t a b) r q.0 (If t ∷ ns) (λ T k e. ap (λ l. If t ∷ flat a (Other ∷ flat b (End ∷ l))) e ∙ (ap (λ l. If t ∷ flat a (Other ∷ l)) q.1.1 ∙ ap (λ l. If t ∷ l) s.1.1)) q.1.0

while_spells : (t : Test) (r : Reading) (ns : List Node) → Spells r ns → Spells (after_while t r) (While t ∷ ns)
while_spells t Fails ns s = tt
while_spells t (Whole T) ns s = tt
while_spells t (ToEnd a r) ns s = on_first_spells (Loop t a) r s.0 (While t ∷ ns) (λ T k e. ap (λ l. While t ∷ flat a (End ∷ l)) e ∙ ap (λ l. While t ∷ l) s.1.1) s.1.0
while_spells t (ToOther a r) ns s = tt

spells : (ns : List Node) → Spells (reading ns) ns
spells [] = refl
spells (Op i ∷ ns) = on_first_spells (Do i) (reading ns) ns (Op i ∷ ns) (λ T k e. ap (λ l. Op i ∷ l) e) (spells ns)
spells (If t ∷ ns) = if_spells t (reading ns) ns (spells ns)
spells (Other ∷ ns) = (ns, (spells ns, refl))
spells (While t ∷ ns) = while_spells t (reading ns) ns (spells ns)
spells (End ∷ ns) = (ns, (spells ns, refl))
spells (Call a ∷ ns) = on_first_spells (Visit a) (reading ns) ns (Call a ∷ ns) (λ T k e. ap (λ l. Call a ∷ l) e) (spells ns)
spells (Jump a ∷ ns) = on_first_spells (Go a) (reading ns) ns (Jump a ∷ ns) (λ T k e. ap (λ l. Jump a ∷ l) e) (spells ns)
spells (JumpTo n ∷ ns) = on_first_spells (GoTo n) (reading ns) ns (JumpTo n ∷ ns) (λ T k e. ap (λ l. JumpTo n ∷ l) e) (spells ns)

whole_spells : (r : Reading) (ns : List Node) (T : Tree) → Spells r ns → whole r ≡ Some T → flat T [] ≡ ns
whole_spells Fails ns T s e = absurd (cc)
whole_spells (Whole U) ns T s e = cc
whole_spells (ToOther U r) ns T s e = absurd (cc)
whole_spells (ToEnd U r) ns T s e = absurd (cc)

-- nodes that are read as a tree are its flat list
pub read_tree : (ns : List Node) (T : Tree) → tree_of ns ≡ Some T → flat T [] ≡ ns
read_tree ns T e = whole_spells (reading ns) ns T (spells ns) e

-- at most one tree is spelled
pub one_tree : (ns : List Node) (T U : Tree) → flat T [] ≡ ns → flat U [] ≡ ns → T ≡ U
one_tree ns T U e f =
    let s : Some T ≡ Some U = sym (tree_read T) ∙ (ap tree_of (e ∙ sym f) ∙ tree_read U) in
    cc
