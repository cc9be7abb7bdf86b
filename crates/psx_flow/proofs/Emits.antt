-- Node after node, the words of a tree are written.
use Rattle.std.proofs.Common.{◌≡◌, ℕ, zero, suc, ◌+◌, ◌-◌, ◌*◌, ◌%◌, ◌^◌, ◌<◌, ◌≤◌, Bool, true, false, ◌&&◌, if◌then◌else◌, nat_lt, List, [], ◌∷◌, ◌++◌, map, length, set, get_or, drop, Some, IfSome, IsTrue, refl, sym, ap, ◌∙◌, subst, arith, length-append, append_assoc, drop-cons}
use Rattle.std.proofs.lemmas.List.{set-set, set_comm, map-append}
use Rattle.std.proofs.lemmas.Bool.Decides.{nat_tests}
use Rattle.std.proofs.Math.Seq.{set-append_seam}
use Rattle.psx_ins.specs.declared.ins.Ins.{Ins}
use Rattle.psx_ins.specs.declared.ins.Ins.TheVariants.{JAL, J, JR}
use Rattle.psx_ins.specs.Words.{word}
use Rattle.psx_flow.specs.declared.node.Test.{Test}
use Rattle.psx_flow.specs.declared.node.Node.{Node}
use Rattle.psx_flow.specs.declared.node.Node.TheVariants.{Other, End}
use Rattle.psx_flow.specs.declared.emit.Bracket.{Bracket}
use Rattle.psx_flow.specs.declared.emit.Bracket.TheVariants.{Choice, Turn}
use Rattle.psx_flow.specs.Tree.{Tree, Stop, Do, When, Choose, Loop, Visit, Go, GoTo, flat, nest, size}
use Rattle.psx_flow.specs.Reading.{tree_of}
use Rattle.psx_flow.specs.Well.{is_well, is_well_tree}
use Rattle.psx_flow.specs.Lowered.{nop, always, opposite, branch_by, branch, distance, target_of, code, lowered}
use Rattle.psx_flow.specs.Emit.{Lowering, apart, branch_word, with_slot, pushed, opened, emitted, run}
use Rattle.std.specs.List.{list_all}
use Rattle.psx_flow.specs.Nodes.{node_fits}
use Rattle.psx_flow.proofs.TreeRead.{tree_read}

-- the word of a branch by words from its slot, forth and back
abbrev forth : Test → ℕ → ℕ
forth t n = word (branch_by t (n % 2 ^ 16))

abbrev back : ℕ → ℕ
back n = word (branch_by always ((2 ^ 16 - n) % 2 ^ 16))

-- the words of a listing, without its address
abbrev pub relative : Tree → List ℕ
relative Stop = []
relative (Do i r) = word i ∷ relative r
relative (When t a r) = forth (opposite t) (size a + 1) ∷ 0 ∷ (relative a ++ relative r)
relative (Choose t a b r) = forth (opposite t) (size a + 3) ∷ 0 ∷ (relative a ++ (forth always (size b + 1) ∷ 0 ∷ (relative b ++ relative r)))
relative (Loop t a r) = forth (opposite t) (size a + 3) ∷ 0 ∷ (relative a ++ (back (size a + 3) ∷ 0 ∷ relative r))
relative (Visit a r) = word (JAL (target_of a)) ∷ 0 ∷ relative r
relative (Go a r) = word (J (target_of a)) ∷ 0 ∷ relative r
relative (GoTo n r) = word (JR n) ∷ 0 ∷ relative r

pub length_is : (T : Tree) → length (relative T) ≡ size T
length_is Stop = refl
length_is (Do i r) = omega (arith, length_is r)
length_is (When t a r) = omega (arith, length_is a, length_is r, length-append (relative a) (relative r))
length_is (Choose t a b r) = omega (arith, length_is a, length_is b, length_is r, length-append (relative b) (relative r), length-append (relative a) (forth always (size b + 1) ∷ 0 ∷ (relative b ++ relative r)))
length_is (Loop t a r) = omega (arith, length_is a, length_is r, length-append (relative a) (back (size a + 3) ∷ 0 ∷ relative r))
length_is (Visit a r) = omega (arith, length_is r)
length_is (Go a r) = omega (arith, length_is r)
length_is (GoTo n r) = omega (arith, length_is r)

abbrev write : List ℕ → ℕ → List ℕ → List ℕ
write w j [] = w
write w j (x ∷ xs) = write (set w j x) (j + 1) xs

write_append : (w : List ℕ) (j : ℕ) (a b : List ℕ) → write w j (a ++ b) ≡ write (write w j a) (j + length a) b
write_append w j [] b = let e : j ≡ j + length {A = ℕ} [] = omega arith in ap (λ n. write w n b) e
write_append w j (x ∷ a) b =
    let e : j + 1 + length a ≡ j + length (x ∷ a) = omega arith in
    write_append (set w j x) (j + 1) a b ∙ ap (λ n. write (write (set w j x) (j + 1) a) n b) e

set_write : (w : List ℕ) (p j : ℕ) (y : ℕ) (a : List ℕ) → p < j → set (write w j a) p y ≡ write (set w p y) j a
set_write w p j y [] h = refl
set_write w p j y (x ∷ a) h =
    set_write (set w j x) p (j + 1) y a (omega arith) ∙ ap (λ l. write l (j + 1) a) (set_comm w j p x y (λ e. omega arith))

-- a branch that is written when its body has been
patch : (w : List ℕ) (p : ℕ) (y : ℕ) (a : List ℕ) → set (write (with_slot w p 0) (p + 2) a) p y ≡ write (with_slot w p y) (p + 2) a
patch w p y a =
    set_write (with_slot w p 0) p (p + 2) y a (omega arith)
    ∙ ap (λ l. write l (p + 2) a) (set_comm (set w p 0) (p + 1) p 0 y (λ e. omega arith) ∙ ap (λ l. set l (p + 1) 0) (set-set w p 0 y))

write_slot : (w : List ℕ) (p x : ℕ) (a : List ℕ) → write (with_slot w p x) (p + 2) a ≡ write w p (x ∷ 0 ∷ a)
write_slot w p x a = let e : p + 2 ≡ p + 1 + 1 = omega arith in ap (λ n. write (with_slot w p x) n a) e

-- a branch, its body, and what follows
body_words : (w la ls : List ℕ) (p n y : ℕ) → length la ≡ n → write (set (write (with_slot w p 0) (p + 2) la) p y) (p + 2 + n) ls ≡ write w p (y ∷ 0 ∷ (la ++ ls))
body_words w la ls p n y e =
    let f : p + 2 + n ≡ p + 2 + length la = omega (arith, e) in
    ap (λ l. write l (p + 2 + n) ls) (patch w p y la)
    ∙ (ap (λ j. write (write (with_slot w p y) (p + 2) la) j ls) f
    ∙ (sym (write_append (with_slot w p y) (p + 2) la ls)
    ∙ write_slot w p y (la ++ ls)))

loop_words : (w la lr : List ℕ) (p n y z : ℕ) → length la ≡ n → write (with_slot (set (write (with_slot w p 0) (p + 2) la) p y) (p + 2 + n) z) (p + 2 + n + 2) lr ≡ write w p (y ∷ 0 ∷ (la ++ (z ∷ 0 ∷ lr)))
loop_words w la lr p n y z e =
    write_slot (set (write (with_slot w p 0) (p + 2) la) p y) (p + 2 + n) z lr ∙ body_words w la (z ∷ 0 ∷ lr) p n y e

choose_words : (w la lb lr : List ℕ) (p n o y z : ℕ) → length la ≡ n → length lb ≡ o
    → write (set (write (with_slot (set (write (with_slot w p 0) (p + 2) la) p y) (p + 2 + n) 0) (p + 2 + n + 2) lb) (p + 2 + n) z) (p + 2 + n + 2 + o) lr ≡ write w p (y ∷ 0 ∷ (la ++ (z ∷ 0 ∷ (lb ++ lr))))
choose_words w la lb lr p n o y z e f =
    body_words (set (write (with_slot w p 0) (p + 2) la) p y) lb lr (p + 2 + n) o z f ∙ body_words w la (z ∷ 0 ∷ (lb ++ lr)) p n y e

to_end : (t : Test) (p n : ℕ) → branch_word t p (p + 2 + n) ≡ forth t (n + 1)
to_end t p n = let e : apart p (p + 2 + n) ≡ (n + 1) % 2 ^ 16 = omega arith in ap (λ x. word (branch_by t x)) e

to_behind : (t : Test) (p n : ℕ) → branch_word t p (p + 2 + n + 2) ≡ forth t (n + 3)
to_behind t p n = let e : apart p (p + 2 + n + 2) ≡ (n + 3) % 2 ^ 16 = omega arith in ap (λ x. word (branch_by t x)) e

to_first : (p n : ℕ) → branch_word always (p + 2 + n) p ≡ back (n + 3)
to_first p n = let e : apart (p + 2 + n) p ≡ (2 ^ 16 - (n + 3)) % 2 ^ 16 = omega arith in ap (λ x. word (branch_by always x)) e

abbrev state : List ℕ → List Bracket → ℕ → Lowering
state w b j = record { words = w; brackets = b; at = j }

states : (w v : List ℕ) (b c : List Bracket) (j i : ℕ) → w ≡ v → b ≡ c → j ≡ i → state w b j ≡ state v c i
states w v b c j i e f g = λ x. state (e x) (f x) (g x)

pushes_by : (b : Bracket) (bs : List Bracket) (c : Bool) → c ≡ true → (if c then b ∷ bs else bs) ≡ b ∷ bs
pushes_by b bs true h = refl
pushes_by b bs false h = absurd (cc)

pushes : (b : Bracket) (bs : List Bracket) → length bs < 16 → pushed b bs ≡ b ∷ bs
pushes b bs h = pushes_by b bs (nat_lt (length bs) 16) (grind (arith, nat_tests))

-- a bracket is opened
opening : (b : Bracket) (ns : List Node) (w : List ℕ) (bs : List Bracket) (p : ℕ) → length bs < 16 → run ns (opened b (state w bs p)) ≡ run ns (state (with_slot w p 0) (b ∷ bs) (p + 2))
opening b ns w bs p h = ap (λ c. run ns (state (with_slot w p 0) c (p + 2))) (pushes b bs h)

slotted_case : (x : ℕ) (T r : Tree) (k : List Node) (w : List ℕ) (bs : List Bracket) (p : ℕ) → run (flat T k) (state w bs p) ≡ run (flat r k) (state (with_slot w p x) bs (p + 2)) → relative T ≡ x ∷ 0 ∷ relative r → size T ≡ 2 + size r
    → run (flat r k) (state (with_slot w p x) bs (p + 2)) ≡ run k (state (write (with_slot w p x) (p + 2) (relative r)) bs (p + 2 + size r))
    → run (flat T k) (state w bs p) ≡ run k (state (write w p (relative T)) bs (p + size T))
slotted_case x T r k w bs p step l n R =
    step ∙ (R ∙ ap (run k) (states _ _ bs bs (p + 2 + size r) (p + size T) (write_slot w p x (relative r) ∙ ap (write w p) (sym l)) refl (omega (arith, n))))

emits : (T : Tree) (k : List Node) (w : List ℕ) (bs : List Bracket) (p : ℕ) → length bs + nest T ≤ 16 → run (flat T k) (state w bs p) ≡ run k (state (write w p (relative T)) bs (p + size T))
emits Stop k w bs p h = ap (run k) (states w w bs bs p (p + 0) refl refl (omega arith))
emits (Do i r) k w bs p h = emits r k (set w p (word i)) bs (p + 1) h ∙ ap (run k) (states _ _ bs bs (p + 1 + size r) (p + (1 + size r)) refl refl (omega arith))
emits (When t a r) k w bs p h =
    let q = opposite t in
    let y = branch_word q p (p + 2 + size a) in
    opening (Choice p q) (flat a (End ∷ flat r k)) w bs p (omega arith)
    ∙ (emits a (End ∷ flat r k) (with_slot w p 0) (Choice p q ∷ bs) (p + 2) (omega arith)
    ∙ (emits r k (set (write (with_slot w p 0) (p + 2) (relative a)) p y) bs (p + 2 + size a) (omega arith)
    ∙ ap (run k) (states _ _ bs bs (p + 2 + size a + size r) (p + (2 + size a + size r))
    (body_words w (relative a) (relative r) p (size a) y (length_is a) ∙ ap (λ z. write w p (z ∷ 0 ∷ (relative a ++ relative r))) (to_end q p (size a))) refl (omega arith))))
emits (Choose t a b r) k w bs p h =
    let q = opposite t in
    let j = p + 2 + size a in
    let y = branch_word q p (j + 2) in
    let z = branch_word always j (j + 2 + size b) in
    let v = set (write (with_slot w p 0) (p + 2) (relative a)) p y in
    opening (Choice p q) (flat a (Other ∷ flat b (End ∷ flat r k))) w bs p (omega arith)
    ∙ (emits a (Other ∷ flat b (End ∷ flat r k)) (with_slot w p 0) (Choice p q ∷ bs) (p + 2) (omega arith)
    ∙ (opening (Choice j always) (flat b (End ∷ flat r k)) v bs j (omega arith)
    ∙ (emits b (End ∷ flat r k) (with_slot v j 0) (Choice j always ∷ bs) (j + 2) (omega arith)
    ∙ (emits r k (set (write (with_slot v j 0) (j + 2) (relative b)) j z) bs (j + 2 + size b) (omega arith)
    ∙ ap (run k) (states _ _ bs bs (j + 2 + size b + size r) (p + (4 + size a + size b + size r))
    (choose_words w (relative a) (relative b) (relative r) p (size a) (size b) y z (length_is a) (length_is b)
    ∙ (ap (λ x. write w p (x ∷ 0 ∷ (relative a ++ (z ∷ 0 ∷ (relative b ++ relative r))))) (to_behind q p (size a))
    ∙ ap (λ x. write w p (forth q (size a + 3) ∷ 0 ∷ (relative a ++ (x ∷ 0 ∷ (relative b ++ relative r))))) (to_end always j (size b))))
    refl (omega arith))))))
emits (Loop t a r) k w bs p h =
    let q = opposite t in
    let j = p + 2 + size a in
    let y = branch_word q p (j + 2) in
    let z = branch_word always j p in
    let v = set (write (with_slot w p 0) (p + 2) (relative a)) p y in
    opening (Turn p q) (flat a (End ∷ flat r k)) w bs p (omega arith)
    ∙ (emits a (End ∷ flat r k) (with_slot w p 0) (Turn p q ∷ bs) (p + 2) (omega arith)
    ∙ (emits r k (with_slot v j z) bs (j + 2) (omega arith)
    ∙ ap (run k) (states _ _ bs bs (j + 2 + size r) (p + (4 + size a + size r))
    (loop_words w (relative a) (relative r) p (size a) y z (length_is a)
    ∙ (ap (λ x. write w p (x ∷ 0 ∷ (relative a ++ (z ∷ 0 ∷ relative r)))) (to_behind q p (size a))
    ∙ ap (λ x. write w p (forth q (size a + 3) ∷ 0 ∷ (relative a ++ (x ∷ 0 ∷ relative r)))) (to_first p (size a))))
    refl (omega arith))))
emits (Visit a r) k w bs p h = slotted_case (word (JAL (target_of a))) (Visit a r) r k w bs p refl refl refl (emits r k (with_slot w p (word (JAL (target_of a)))) bs (p + 2) h)
emits (Go a r) k w bs p h = slotted_case (word (J (target_of a))) (Go a r) r k w bs p refl refl refl (emits r k (with_slot w p (word (J (target_of a)))) bs (p + 2) h)
emits (GoTo n r) k w bs p h = slotted_case (word (JR n)) (GoTo n r) r k w bs p refl refl refl (emits r k (with_slot w p (word (JR n))) bs (p + 2) h)

write_all : (pre w a : List ℕ) → length a ≡ length w → write (pre ++ w) (length pre) a ≡ pre ++ a
write_all pre [] [] h = refl
write_all pre (y ∷ w) [] h = absurd (omega arith)
write_all pre [] (x ∷ a) h = absurd (omega arith)
write_all pre (y ∷ w) (x ∷ a) h =
    let e : length pre + 1 ≡ length (pre ++ x ∷ []) = omega (arith, length-append pre (x ∷ [])) in
    ap (λ l. write l (length pre + 1) a) (set-append_seam pre y w x ∙ sym (append_assoc pre (x ∷ []) w))
    ∙ (ap (λ n. write ((pre ++ x ∷ []) ++ w) n a) e
    ∙ (write_all (pre ++ x ∷ []) w a (omega arith)
    ∙ append_assoc pre (x ∷ []) a))

-- the words at an address are the words without it
by_words : (t : Test) (from to n : ℕ) → distance from to ≡ n % 2 ^ 16 → word (branch_by t (distance from to)) ≡ forth t n
by_words t from to n e = ap (λ x. word (branch_by t x)) e

joined : (l m : List Ins) (x y : List ℕ) → map word l ≡ x → map word m ≡ y → map word (l ++ m) ≡ x ++ y
joined l m x y e f = map-append word l m ∙ (λ i. e i ++ f i)

pub lowered_is : (T : Tree) (at : ℕ) → lowered T at ≡ relative T
lowered_is Stop at = refl
lowered_is (Do i r) at = ap (λ l. word i ∷ l) (lowered_is r (at + 4))
lowered_is (When t a r) at =
    let q = opposite t in
    let end = at + (8 + 4 * size a) in
    let e = by_words q at end (size a + 1) (omega arith) in
    let rest = joined (code a (at + 8)) (code r end) (relative a) (relative r) (lowered_is a (at + 8)) (lowered_is r end) in
    λ i. e i ∷ 0 ∷ rest i
lowered_is (Choose t a b r) at =
    let q = opposite t in
    let over = at + (8 + 4 * size a) in
    let other = at + (16 + 4 * size a) in
    let end = at + (16 + 4 * size a + 4 * size b) in
    let e = by_words q at other (size a + 3) (omega arith) in
    let f = by_words always over end (size b + 1) (omega arith) in
    let rest = joined (code b other) (code r end) (relative b) (relative r) (lowered_is b other) (lowered_is r end) in
    let all = joined (code a (at + 8)) (branch always over end ∷ nop ∷ (code b other ++ code r end)) (relative a) (forth always (size b + 1) ∷ 0 ∷ (relative b ++ relative r)) (lowered_is a (at + 8)) (λ i. f i ∷ 0 ∷ rest i) in
    λ i. e i ∷ 0 ∷ all i
lowered_is (Loop t a r) at =
    let q = opposite t in
    let behind = at + (8 + 4 * size a) in
    let end = at + (16 + 4 * size a) in
    let e = by_words q at end (size a + 3) (omega arith) in
    let d : distance behind at ≡ (2 ^ 16 - (size a + 3)) % 2 ^ 16 = omega arith in
    let f = ap (λ x. word (branch_by always x)) d in
    let rest = lowered_is r end in
    let all = joined (code a (at + 8)) (branch always behind at ∷ nop ∷ code r end) (relative a) (back (size a + 3) ∷ 0 ∷ relative r) (lowered_is a (at + 8)) (λ i. f i ∷ 0 ∷ rest i) in
    λ i. e i ∷ 0 ∷ all i
lowered_is (Visit a r) at = ap (λ l. word (JAL (target_of a)) ∷ 0 ∷ l) (lowered_is r (at + 8))
lowered_is (Go a r) at = ap (λ l. word (J (target_of a)) ∷ 0 ∷ l) (lowered_is r (at + 8))
lowered_is (GoTo n r) at = ap (λ l. word (JR n) ∷ 0 ∷ l) (lowered_is r (at + 8))

pub lowered_length : (T : Tree) (at : ℕ) → length (lowered T at) ≡ size T
lowered_length T at = ap (λ (l : List ℕ). length l) (lowered_is T at) ∙ length_is T

tree_nest : (T : Tree) (nodes : List Node) → IsTrue (is_well nodes) → flat T [] ≡ nodes → nest T ≤ 16
tree_nest T nodes h e =
    let f : is_well_tree (Some T) ≡ true = ap is_well_tree (sym (tree_read T) ∙ ap tree_of e) ∙ h in
    grind (arith, nat_tests)

-- the whole of a listing
pub written : (T : Tree) (nodes : List Node) (at : ℕ) (words : List ℕ) (s : Lowering) → IsTrue (is_well nodes) → flat T [] ≡ nodes → IfSome (tree_of nodes) (λ tree. length words ≡ size tree) → s ≡ run nodes (state words [] 0) → s.words ≡ lowered T at
written T nodes at words s h e room r =
    let full : length words ≡ size T = subst (λ o. IfSome o (λ tree. length words ≡ size tree)) (sym (ap tree_of e) ∙ tree_read T) room in
    ap (λ x. x.words) (r ∙ (ap (λ ns. run ns (state words [] 0)) (sym e) ∙ emits T [] words [] 0 (omega (arith, tree_nest T nodes h e))))
    ∙ (write_all [] words (relative T) (length_is T ∙ sym full) ∙ sym (lowered_is T at))

no_more : (nodes : List Node) (i : ℕ) → length nodes ≤ i → drop i nodes ≡ []
no_more [] zero h = refl
no_more [] (suc i) h = refl
no_more (n ∷ nodes) zero h = absurd (omega arith)
no_more (n ∷ nodes) (suc i) h = no_more nodes i (omega arith)

pub loop_done : (T : Tree) (nodes : List Node) (at : ℕ) (words : List ℕ) (s : Lowering) (i : ℕ) → length nodes ≤ i → IsTrue (is_well nodes) → flat T [] ≡ nodes → IfSome (tree_of nodes) (λ tree. length words ≡ size tree)
    → run (drop i nodes) s ≡ run nodes (state words [] 0) → s.words ≡ lowered T at
loop_done T nodes at words s i end h e room r = written T nodes at words s h e room (ap (λ ns. run ns s) (sym (no_more nodes i end)) ∙ r)

-- a turn of the loop
pub turn : (nodes : List Node) (i : ℕ) (d : Node) (s t u : Lowering) → i < length nodes → t ≡ emitted (get_or nodes i d) s → run (drop i nodes) s ≡ u → run (drop (i + 1) nodes) t ≡ u
turn nodes i d s t u lt e h =
    let next : suc i ≡ i + 1 = omega arith in
    ap (λ j. run (drop j nodes) t) (sym next) ∙ (ap (run (drop (suc i) nodes)) e ∙ (ap (λ ns. run ns s) (sym (drop-cons nodes i d lt)) ∙ h))

and_second : (a b : Bool) → (a && b) ≡ true → b ≡ true
and_second true b h = h
and_second false b h = absurd (cc)

pub rest_fits : (nodes : List Node) (i : ℕ) (d : Node) → i < length nodes → IsTrue (list_all node_fits (drop i nodes)) → IsTrue (list_all node_fits (drop (i + 1) nodes))
rest_fits nodes i d lt h =
    let next : suc i ≡ i + 1 = omega arith in
    ap (λ j. list_all node_fits (drop j nodes)) (sym next)
    ∙ and_second (node_fits (get_or nodes i d)) (list_all node_fits (drop (suc i) nodes)) (ap (list_all node_fits) (sym (drop-cons nodes i d lt)) ∙ h)
