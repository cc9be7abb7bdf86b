-- A run makes at most four steps for each node that it passes: one with its slot, and that of its Other or End with its slot.
use Rattle.std.proofs.Common.{◌≡◌, ℕ, zero, suc, ◌+◌, ◌*◌, ◌≤◌, List, [], ◌∷◌, Bool, true, false, cond, refl, sym, subst, arith, ⊎_elim}
use Rattle.std.specs.Prelude.{nat_eq}
use Rattle.psx_ins.specs.declared.ins.Ins.{Ins}
use Rattle.psx_base.specs.Context.{Context}
use Rattle.psx_flow.specs.declared.node.Test.{Test}
use Rattle.psx_flow.specs.Tree.{Tree, Stop, Do, When, Choose, Loop, Visit, Go, GoTo, size}
use Rattle.psx_flow.specs.Run.{Run, done}
use Rattle.psx_flow.specs.Meets.{passing, branching, linking}
use Rattle.psx_flow.specs.Runs.{Ending, Falls, Jumps, JumpsTo, Then, TurnsOf, Called, Runs, called}
use Rattle.psx_flow.specs.Laws.{RunsTo}

-- from s to e there are at most four steps for each node
abbrev pub Few : Run → Run → Type 0
Few s e = e.steps + 4 * s.passed ≤ s.steps + 4 * e.passed

abbrev FewTo : Run → Ending → Type 0
FewTo s (Falls e) = Few s e
FewTo s (Jumps to e) = Few s e
FewTo s (JumpsTo to e) = Few s e

-- a node with its slot, or an instruction, and what follows
headed : (s m : Run) (e : Ending) → m.steps + 4 * s.passed ≤ s.steps + 4 * m.passed → FewTo m e → FewTo s e
headed s m (Falls e) h f = omega (arith, h, f)
headed s m (Jumps to e) h f = omega (arith, h, f)
headed s m (JumpsTo to e) h f = omega (arith, h, f)

-- a part behind its head, and what follows it: the branch behind the part is among the four steps of the head
parted : (s m d : Run) (e : Ending) → d.steps ≤ m.steps + 2 → d.passed ≡ m.passed → Few (passing s) m → FewTo d e → FewTo s e
parted s m d (Falls e) h p f g = omega (arith, h, p, f, g)
parted s m d (Jumps to e) h p f g = omega (arith, h, p, f, g)
parted s m d (JumpsTo to e) h p f g = omega (arith, h, p, f, g)

module _ (A B : Run → Ending → Type 0) (s : Run) (e : Ending) (next : Run → Run) (near : (m : Run) → ((next m).steps ≤ m.steps + 2) × ((next m).passed ≡ m.passed)) where
  then_few : ((x : Ending) → A (passing s) x → FewTo (passing s) x) → ((m : Run) → B (next m) e → FewTo (next m) e) → Then A (λ m. B (next m)) (passing s) e → FewTo s e
  then_few part rest h =
      ⊎_elim
      (λ t. parted s t.0 (next t.0) e (near t.0).0 (near t.0).1 (part (Falls t.0) t.1) (rest t.0 t.2))
      (λ j. headed s (passing s) e (omega arith) (part e j.1))
      h

itself_near : (m : Run) → (m.steps ≤ m.steps + 2) × (m.passed ≡ m.passed)
itself_near m = (omega arith, refl)

branch_near : (m : Run) → ((branching m).steps ≤ m.steps + 2) × ((branching m).passed ≡ m.passed)
branch_near m = (omega arith, refl)

turns_few : (n : ℕ) (t : Test) (A B : Run → Ending → Type 0) (s : Run) (e : Ending) → ((m : Run) (x : Ending) → A m x → FewTo m x) → ((m : Run) → B m e → FewTo m e) → TurnsOf n t A B s e → FewTo s e
turns_few zero t A B s e part rest h = absurd h
turns_few (suc n) t A B s e part rest h =
    ⊎_elim
    (λ y. headed s (passing s) e (omega arith) (rest (passing s) y.1))
    (λ y. then_few A (TurnsOf n t A B) s e branching branch_near (part (passing s)) (λ m. turns_few n t A B (branching m) e part rest) y.1)
    h

module _ (may : Ins → Context → Bool) where
  tree_few : (R : Called) → ((a back : ℕ) (s m : Run) → R a back s m → Few s m) → (T : Tree) (at : ℕ) (s : Run) (e : Ending) → Runs may R T at s e → FewTo s e
  tree_few R known Stop at s e h = subst (FewTo s) (sym h) (omega arith)
  tree_few R known (Do i r) at s e h = headed s (done i s at h.2.0) e (omega arith) (tree_few R known r (at + 4) (done i s at h.2.0) e h.2.2)
  tree_few R known (When t a r) at s e h =
      let end : ℕ = at + (8 + 4 * size a) in
      ⊎_elim
      (λ y. then_few (Runs may R a (at + 8)) (Runs may R r end) s e (λ m. m) itself_near (λ x. tree_few R known a (at + 8) (passing s) x) (λ m. tree_few R known r end m e) y.1)
      (λ y. headed s (passing s) e (omega arith) (tree_few R known r end (passing s) e y.1))
      h
  tree_few R known (Choose t a b r) at s e h =
      let other : ℕ = at + (16 + 4 * size a) in
      let end : ℕ = at + (16 + 4 * size a + 4 * size b) in
      ⊎_elim
      (λ y. then_few (Runs may R a (at + 8)) (Runs may R r end) s e branching branch_near (λ x. tree_few R known a (at + 8) (passing s) x) (λ m. tree_few R known r end (branching m) e) y.1)
      (λ y. then_few (Runs may R b other) (Runs may R r end) s e (λ m. m) itself_near (λ x. tree_few R known b other (passing s) x) (λ m. tree_few R known r end m e) y.1)
      h
  tree_few R known (Loop t a r) at s e h =
      turns_few h.0 t (Runs may R a (at + 8)) (Runs may R r (at + (16 + 4 * size a))) s e (λ m x. tree_few R known a (at + 8) m x) (λ m. tree_few R known r (at + (16 + 4 * size a)) m e) h.1
  tree_few R known (Visit a r) at s e h =
      let into : Run = linking s (at + 8) in
      headed s into e (omega arith) (headed into h.0 e (known a (at + 8) into h.0 h.1) (tree_few R known r (at + 8) h.0 e h.2))
  tree_few R known (Go a r) at s e h = subst (FewTo s) (sym h) (omega arith)
  tree_few R known (GoTo n r) at s e h = subst (FewTo s) (sym h) (omega arith)

  calls_few : (ls : List (ℕ × Tree)) (a back : ℕ) (s m : Run) → called may ls a back s m → Few s m
  calls_few [] a back s m h = absurd h
  calls_few (l ∷ ls) a back s m h = go (calls_few ls) (nat_eq a l.0) h
    where
      go : ((a back : ℕ) (s m : Run) → called may ls a back s m → Few s m) → (b : Bool) → cond b (Runs may (called may ls) l.1 l.0 s (JumpsTo back m)) (called may ls a back s m) → Few s m
      go few true k = tree_few (called may ls) few l.1 l.0 s (JumpsTo back m) k
      go few false k = few a back s m k

  -- a listing's run, to where it comes to
  pub few_to : (ls : List (ℕ × Tree)) (T : Tree) (at : ℕ) (s e : Run) (to : ℕ) → RunsTo may (called may ls) T at s e to → Few s e
  few_to ls T at s e to h =
      ⊎_elim (λ x. tree_few (called may ls) (calls_few ls) T at s (Falls e) x.1)
      (⊎_elim (tree_few (called may ls) (calls_few ls) T at s (Jumps to e)) (tree_few (called may ls) (calls_few ls) T at s (JumpsTo to e))) h
