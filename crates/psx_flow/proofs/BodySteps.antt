-- Bodies opened and closed node by node, and the tree that is read.
use Rattle.std.proofs.Common.{◌≡◌, ℕ, suc, ◌+◌, ◌≤◌, ◌<◌, max, Bool, true, false, ◌&&◌, if◌then◌else◌, IsTrue, nat_le, nat_lt, List, [], ◌∷◌, length, get_or, drop, Option, Some, None, refl, sym, ap, ◌∙◌, subst, arith, drop-cons}
use Rattle.std.proofs.lemmas.Bool.Decides.{nat_tests}
use Rattle.std.proofs.Math.Bool.{and-false}
use Rattle.std.specs.List.{list_all}
use Rattle.psx_flow.specs.declared.node.Test.{Test}
use Rattle.psx_flow.specs.declared.node.Node.{Node}
use Rattle.psx_flow.specs.declared.node.Node.TheVariants.{Op, If, Other, While, End, Call, Jump, JumpTo}
use Rattle.psx_flow.specs.declared.nesting.Body.{Body}
use Rattle.psx_flow.specs.declared.nesting.Body.TheVariants.{First, Last}
use Rattle.psx_flow.specs.Tree.{Tree, Stop, Do, When, Choose, Loop, Visit, Go, GoTo, flat, nest}
use Rattle.psx_flow.specs.Reading.{Reading, Fails, Whole, ToOther, ToEnd, on_first, after_if, after_while, reading, whole, tree_of}
use Rattle.psx_flow.specs.Well.{IsWell, is_op, is_register, test_fits, fits, is_well_tree, is_well}
use Rattle.psx_flow.specs.Nodes.{node_fits, opened, bodies_after}
use Rattle.psx_flow.proofs.TreeRead.{tree_read, read_tree}

abbrev is_first : Body → Bool
is_first First = true
is_first Last = false

-- what is read closes these bodies, and nothing in it is nested too deep
abbrev pub closes : List Body → Reading → Bool
closes bs Fails = false
closes [] (Whole T) = nat_le (nest T) 16
closes (b ∷ bs) (Whole T) = false
closes [] (ToOther T r) = false
closes (b ∷ bs) (ToOther T r) = is_first b && (nat_le (suc (length bs) + nest T) 16 && closes (Last ∷ bs) r)
closes [] (ToEnd T r) = false
closes (b ∷ bs) (ToEnd T r) = nat_le (suc (length bs) + nest T) 16 && closes bs r

-- nodes in these bodies are well
abbrev pub closed : Option (List Body) → List Node → Bool
closed None ns = false
closed (Some bs) ns = closes bs (reading ns)

same_nest : (f : Tree → Tree) → ((T : Tree) → nest (f T) ≡ nest T) → (bs : List Body) (r : Reading) → closes bs (on_first f r) ≡ closes bs r
same_nest f h bs Fails = refl
same_nest f h [] (Whole T) = ap (λ n. nat_le n 16) (h T)
same_nest f h (b ∷ bs) (Whole T) = refl
same_nest f h [] (ToOther T r) = refl
same_nest f h (b ∷ bs) (ToOther T r) = ap (λ n. is_first b && (nat_le (suc (length bs) + n) 16 && closes (Last ∷ bs) r)) (h T)
same_nest f h [] (ToEnd T r) = refl
same_nest f h (b ∷ bs) (ToEnd T r) = ap (λ n. nat_le (suc (length bs) + n) 16 && closes bs r) (h T)

-- the greater of two is at most 16 where both are
both : (d x y n : ℕ) → n ≡ max (1 + x) y → nat_le (d + n) 16 ≡ (nat_le (suc d + x) 16 && nat_le (d + y) 16)
both d x y n e = grind (arith, nat_tests)

both_first : (x y n : ℕ) → n ≡ max (1 + x) y → nat_le n 16 ≡ (nat_le (1 + x) 16 && nat_le y 16)
both_first x y n e = grind (arith, nat_tests)

assoc : (n : Bool) (a b c : Bool) → n ≡ (a && b) → (n && c) ≡ (a && (b && c))
assoc n true b c e = ap (λ x. x && c) e
assoc n false b c e = ap (λ x. x && c) e

other_deeper : (b : Body) (n p q c : Bool) → n ≡ (p && q) → (is_first b && (n && c)) ≡ (p && (is_first b && (q && c)))
other_deeper First n p q c e = assoc n p q c e
other_deeper Last n p q c e = sym (and-false p)

and_true : (a : Bool) → (a && true) ≡ a
and_true true = refl
and_true false = refl

-- a bracket before what is read
deeper : (f : Tree → Tree) (x : ℕ) → ((T : Tree) → nest (f T) ≡ max (1 + x) (nest T)) → (bs : List Body) (r : Reading) → closes bs (on_first f r) ≡ (nat_le (suc (length bs) + x) 16 && closes bs r)
deeper f x h bs Fails = sym (and-false (nat_le (suc (length bs) + x) 16))
deeper f x h [] (Whole T) = both_first x (nest T) (nest (f T)) (h T)
deeper f x h (b ∷ bs) (Whole T) = sym (and-false (nat_le (suc (length (b ∷ bs)) + x) 16))
deeper f x h [] (ToOther T r) = sym (and-false (nat_le (suc (length {A = Body} []) + x) 16))
deeper f x h (b ∷ bs) (ToOther T r) = other_deeper b _ _ _ (closes (Last ∷ bs) r) (both (suc (length bs)) x (nest T) (nest (f T)) (h T))
deeper f x h [] (ToEnd T r) = sym (and-false (nat_le (suc (length {A = Body} []) + x) 16))
deeper f x h (b ∷ bs) (ToEnd T r) = assoc _ _ _ (closes bs r) (both (suc (length bs)) x (nest T) (nest (f T)) (h T))

two_bodies : (d a b : ℕ) (c : Bool) → (nat_le (suc d + max a b) 16 && c) ≡ (nat_le (suc d + a) 16 && (nat_le (suc d + b) 16 && c))
two_bodies d a b c = assoc _ _ _ c (grind (arith, nat_tests))

if_closes : (t : Test) (bs : List Body) (r : Reading) → closes bs (after_if t r) ≡ closes (First ∷ bs) r
if_closes t bs Fails = refl
if_closes t bs (Whole T) = refl
if_closes t bs (ToEnd a r) = deeper (When t a) (nest a) (λ T. refl) bs r
if_closes t bs (ToOther a Fails) = sym (and-false (nat_le (suc (length bs) + nest a) 16))
if_closes t bs (ToOther a (Whole T)) = sym (and-false (nat_le (suc (length bs) + nest a) 16))
if_closes t bs (ToOther a (ToOther b r)) = sym (and-false (nat_le (suc (length bs) + nest a) 16))
if_closes t bs (ToOther a (ToEnd b r)) = deeper (Choose t a b) (max (nest a) (nest b)) (λ T. omega arith) bs r ∙ two_bodies (length bs) (nest a) (nest b) (closes bs r)

while_closes : (t : Test) (bs : List Body) (r : Reading) → closes bs (after_while t r) ≡ closes (Last ∷ bs) r
while_closes t bs Fails = refl
while_closes t bs (Whole T) = refl
while_closes t bs (ToEnd a r) = deeper (Loop t a) (nest a) (λ T. refl) bs r
while_closes t bs (ToOther a r) = refl

too_deep : (b : Body) (bs : List Body) (r : Reading) → nat_lt (length bs) 16 ≡ false → closes (b ∷ bs) r ≡ false
too_deep b bs Fails h = refl
too_deep b bs (Whole T) h = refl
too_deep b bs (ToOther T r) h = let e : nat_le (suc (length bs) + nest T) 16 ≡ false = grind (arith, nat_tests) in ap (λ x. is_first b && (x && closes (Last ∷ bs) r)) e ∙ and-false (is_first b)
too_deep b bs (ToEnd T r) h = let e : nat_le (suc (length bs) + nest T) 16 ≡ false = grind (arith, nat_tests) in ap (λ x. x && closes bs r) e

opens_by : (b : Body) (bs : List Body) (ns : List Node) (c : Bool) → nat_lt (length bs) 16 ≡ c → closes (b ∷ bs) (reading ns) ≡ closed (if c then Some (b ∷ bs) else None) ns
opens_by b bs ns true h = refl
opens_by b bs ns false h = too_deep b bs (reading ns) h

opens : (b : Body) (bs : List Body) (ns : List Node) → closes (b ∷ bs) (reading ns) ≡ closed (opened b bs) ns
opens b bs ns = opens_by b bs ns (nat_lt (length bs) 16) refl

-- a node's step
pub step_closes : (n : Node) (ns : List Node) (bs : List Body) → length bs ≤ 16 → closes bs (reading (n ∷ ns)) ≡ closed (bodies_after n bs) ns
step_closes (Op i) ns bs h = same_nest (Do i) (λ T. refl) bs (reading ns)
step_closes (If t) ns bs h = if_closes t bs (reading ns) ∙ opens First bs ns
step_closes (While t) ns bs h = while_closes t bs (reading ns) ∙ opens Last bs ns
step_closes Other ns [] h = refl
step_closes Other ns (First ∷ bs) h =
    let e : nat_le (suc (length bs) + 0) 16 ≡ true = grind (arith, nat_tests) in
    ap (λ x. x && closes (Last ∷ bs) (reading ns)) e ∙ opens Last bs ns
step_closes Other ns (Last ∷ bs) h = refl
step_closes End ns [] h = refl
step_closes End ns (b ∷ bs) h = let e : nat_le (suc (length bs) + 0) 16 ≡ true = grind (arith, nat_tests) in ap (λ x. x && closes bs (reading ns)) e
step_closes (Call a) ns bs h = same_nest (Visit a) (λ T. refl) bs (reading ns)
step_closes (Jump a) ns bs h = same_nest (Go a) (λ T. refl) bs (reading ns)
step_closes (JumpTo n) ns bs h = same_nest (GoTo n) (λ T. refl) bs (reading ns)

opened_short : (b : Body) (bs cs : List Body) (c : Bool) → nat_lt (length bs) 16 ≡ c → (if c then Some (b ∷ bs) else None) ≡ Some cs → length cs ≤ 16
opened_short b bs cs true h e =
    let s : b ∷ bs ≡ cs = cc in
    let k : suc (length bs) ≤ 16 = grind (arith, nat_tests) in
    subst (λ (l : List Body). length l ≤ 16) s k
opened_short b bs cs false h e = absurd (cc)

-- at most 16 bodies stay at most 16
pub step_short : (n : Node) (bs cs : List Body) → length bs ≤ 16 → bodies_after n bs ≡ Some cs → length cs ≤ 16
step_short (Op i) bs cs h e = let s : bs ≡ cs = cc in subst (λ (l : List Body). length l ≤ 16) s h
step_short (If t) bs cs h e = opened_short First bs cs (nat_lt (length bs) 16) refl e
step_short (While t) bs cs h e = opened_short Last bs cs (nat_lt (length bs) 16) refl e
step_short Other [] cs h e = absurd (cc)
step_short Other (First ∷ bs) cs h e = opened_short Last bs cs (nat_lt (length bs) 16) refl e
step_short Other (Last ∷ bs) cs h e = absurd (cc)
step_short End [] cs h e = absurd (cc)
step_short End (b ∷ bs) cs h e = let s : bs ≡ cs = cc in let k : length bs ≤ 16 = omega arith in subst (λ (l : List Body). length l ≤ 16) s k
step_short (Call a) bs cs h e = let s : bs ≡ cs = cc in subst (λ (l : List Body). length l ≤ 16) s h
step_short (Jump a) bs cs h e = let s : bs ≡ cs = cc in subst (λ (l : List Body). length l ≤ 16) s h
step_short (JumpTo n) bs cs h e = let s : bs ≡ cs = cc in subst (λ (l : List Body). length l ≤ 16) s h

and_assoc : (a b c : Bool) → ((a && b) && c) ≡ (a && (b && c))
and_assoc a b c = assoc (a && b) a b c refl

-- a tree fits where its nodes do
pub nodes_fit : (T : Tree) (k : List Node) → list_all node_fits (flat T k) ≡ (fits T && list_all node_fits k)
nodes_fit Stop k = refl
nodes_fit (Do i r) k = ap (λ x. is_op i && x) (nodes_fit r k) ∙ sym (and_assoc (is_op i) (fits r) (list_all node_fits k))
nodes_fit (When t a r) k =
    ap (λ x. test_fits t && x) (nodes_fit a (End ∷ flat r k) ∙ ap (λ x. fits a && x) (nodes_fit r k) ∙ sym (and_assoc (fits a) (fits r) (list_all node_fits k)))
    ∙ sym (and_assoc (test_fits t) (fits a && fits r) (list_all node_fits k))
nodes_fit (Choose t a b r) k =
    let c = list_all node_fits k in
    let u = nodes_fit b (End ∷ flat r k) ∙ ap (λ x. fits b && x) (nodes_fit r k) ∙ sym (and_assoc (fits b) (fits r) c) in
    let v = nodes_fit a (Other ∷ flat b (End ∷ flat r k)) ∙ ap (λ x. fits a && x) u ∙ sym (and_assoc (fits a) (fits b && fits r) c) in
    ap (λ x. test_fits t && x) v ∙ sym (and_assoc (test_fits t) (fits a && (fits b && fits r)) c)
nodes_fit (Loop t a r) k =
    ap (λ x. test_fits t && x) (nodes_fit a (End ∷ flat r k) ∙ ap (λ x. fits a && x) (nodes_fit r k) ∙ sym (and_assoc (fits a) (fits r) (list_all node_fits k)))
    ∙ sym (and_assoc (test_fits t) (fits a && fits r) (list_all node_fits k))
nodes_fit (Visit a r) k = nodes_fit r k
nodes_fit (Go a r) k = nodes_fit r k
nodes_fit (GoTo n r) k = ap (λ x. is_register n && x) (nodes_fit r k) ∙ sym (and_assoc (is_register n) (fits r) (list_all node_fits k))

-- nodes in these bodies are well
abbrev pub well_in : List Body → List Node → Bool
well_in bs ns = list_all node_fits ns && closes bs (reading ns)

all_fit : (T : Tree) (ns : List Node) → flat T [] ≡ ns → list_all node_fits ns ≡ fits T
all_fit T ns e = ap (list_all node_fits) (sym e) ∙ (nodes_fit T [] ∙ and_true (fits T))

and_comm : (a b : Bool) → (a && b) ≡ (b && a)
and_comm true true = refl
and_comm true false = refl
and_comm false true = refl
and_comm false false = refl

well_by : (ns : List Node) (r : Reading) → reading ns ≡ r → is_well_tree (whole r) ≡ (list_all node_fits ns && closes [] r)
well_by ns Fails e = sym (and-false (list_all node_fits ns))
well_by ns (Whole T) e = and_comm (nat_le (nest T) 16) (fits T) ∙ ap (λ x. x && nat_le (nest T) 16) (sym (all_fit T ns (read_tree ns T (ap whole e))))
well_by ns (ToOther T r) e = sym (and-false (list_all node_fits ns))
well_by ns (ToEnd T r) e = sym (and-false (list_all node_fits ns))

-- a list of nodes is well where it is in no body
pub well_is : (ns : List Node) → is_well ns ≡ well_in [] ns
well_is ns = well_by ns (reading ns) refl

tree_well : (ns : List Node) (o : Option Tree) → tree_of ns ≡ o → IsTrue (is_well_tree o) → IsWell ns
tree_well ns None e h = absurd (cc)
tree_well ns (Some T) e h = record { tree = T; spelled = read_tree ns T e; nested = grind (arith, nat_tests); fitting = grind (arith, nat_tests) }

-- the test and the record say the same
pub well_means : (ns : List Node) → IsTrue (is_well ns) → IsWell ns
well_means ns h = tree_well ns (tree_of ns) refl h

pub well_holds : (ns : List Node) → IsWell ns → IsTrue (is_well ns)
well_holds ns w =
    let e : tree_of ns ≡ Some w.tree = ap tree_of (sym w.spelled) ∙ tree_read w.tree in
    let t : nat_le (nest w.tree) 16 ≡ true = let h = w.nested in grind (arith, nat_tests) in
    ap is_well_tree e ∙ (ap (λ x. x && fits w.tree) t ∙ w.fitting)

-- the test's answer says whether the nodes are a listing
pub well_both : (ns : List Node) (r : Bool) → r ≡ is_well ns → (IsTrue r → IsWell ns) × (IsWell ns → IsTrue r)
well_both ns r e = (λ h. well_means ns (sym e ∙ h), λ w. e ∙ well_holds ns w)

one_step : (n : Node) (ns : List Node) (bs cs : List Body) → length bs ≤ 16 → node_fits n ≡ true → bodies_after n bs ≡ Some cs → well_in bs (n ∷ ns) ≡ well_in cs ns
one_step n ns bs cs h f e =
    ap (λ x. (x && list_all node_fits ns) && closes bs (reading (n ∷ ns))) f
    ∙ ap (λ x. list_all node_fits ns && x) (step_closes n ns bs h ∙ ap (λ o. closed o ns) e)

-- a turn of the loop
pub turn : (nodes : List Node) (i : ℕ) (d : Node) (bs cs : List Body) (r : Bool) → i < length nodes → length bs ≤ 16 → node_fits (get_or nodes i d) ≡ true → bodies_after (get_or nodes i d) bs ≡ Some cs → well_in bs (drop i nodes) ≡ r → well_in cs (drop (i + 1) nodes) ≡ r
turn nodes i d bs cs r lt h f e w =
    let next : suc i ≡ i + 1 = omega arith in
    ap (λ j. well_in cs (drop j nodes)) (sym next)
    ∙ (sym (one_step (get_or nodes i d) (drop (suc i) nodes) bs cs h f e) ∙ (ap (well_in bs) (sym (drop-cons nodes i d lt)) ∙ w))

and_first : (a b : Bool) → (a && b) ≡ true → a ≡ true
and_first true b h = refl
and_first false b h = absurd (cc)

pub listing_fits : (ns : List Node) → IsTrue (is_well ns) → IsTrue (list_all node_fits ns)
listing_fits ns h = and_first (list_all node_fits ns) (closes [] (reading ns)) (sym (well_is ns) ∙ h)
