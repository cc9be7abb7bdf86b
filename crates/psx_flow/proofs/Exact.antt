-- Where a listing meets a goal for all answers, its words come to it by a run of the relation.
use Rattle.std.proofs.Common.{◌≡◌, ℕ, zero, suc, ◌+◌, ◌*◌, ◌^◌, ◌<◌, ◌⊎◌, inl, inr, List, [], ◌∷◌, Bool, true, false, cond, None, refl, sym, subst, arith, ⊎_elim}
use Rattle.std.specs.Prelude.{nat_eq}
use Rattle.std.proofs.lemmas.Bool.{eqb-true}
use Rattle.psx_ins.specs.declared.ins.Ins.{Ins}
use Rattle.psx_base.specs.Memory.{Memory}
use Rattle.psx_base.specs.Context.{Context}
use Rattle.psx_cpu.specs.Processor.{Bus}
use Rattle.psx_flow.specs.declared.node.Test.{Test}
use Rattle.psx_flow.specs.Tree.{Tree, Stop, Do, When, Choose, Loop, Visit, Go, GoTo, size}
use Rattle.psx_flow.specs.Run.{Run, done, spares}
use Rattle.psx_flow.specs.Meets.{passing, branching, Goal, Calls, Turns, MeetsEach, Meets, calls}
use Rattle.psx_flow.specs.Reaches.{Keeps, IsPlaced, ArePlaced, Reaches}
use Rattle.psx_flow.specs.Laws.{RunsTo}
use Rattle.psx_flow.specs.Runs.{Ending, Falls, Jumps, JumpsTo, Then, TurnsOf, Called, Runs, called}
use Rattle.psx_flow.specs.Plain.{executing}
use Rattle.psx_flow.proofs.Rules.{Fair, fair, each_mono}
use Rattle.psx_flow.specs.Lowered.{code}
use Rattle.psx_flow.proofs.Step.{as_code}
use Rattle.psx_flow.proofs.Room.{tree_spaced}
use Rattle.psx_flow.proofs.Moves.{From, reach_here, reach_then}
use Rattle.psx_flow.proofs.Compiled.{EndsAt, run_tree}
use Rattle.psx_flow.proofs.Counts.{Few, few_to}

-- ---- calls

cond_split : (b : Bool) (P Q : Type 0) (R : Type 0) → (b ≡ true → P → R) → (b ≡ false → Q → R) → cond b P Q → R
cond_split true P Q R f g h = f refl h
cond_split false P Q R f g h = g refl h

module _ (kept : ℕ → Bool) (bus : ℕ → Bus) (few : (n : ℕ) → (bus n).value < 2 ^ 32) (first : Memory) where
  run_calls : (ls : List (ℕ × Tree)) → ArePlaced kept first ls → (a ret : ℕ) (K : Goal) (c : ℕ) (s : Run) → Keeps kept first s → calls kept ls a ret K s → From kept bus first c s a (λ e b. (b ≡ ret) × K e)
  run_calls [] pl a ret K c s ks h = absurd h
  run_calls (l ∷ ls) pl a ret K c s ks h =
      cond_split (nat_eq a l.0) _ _ _
      (λ e k. subst (λ n. From kept bus first c s n (λ m b. (b ≡ ret) × K m)) (sym (eqb-true a l.0 e))
      (reach_then kept bus first (executing s l.0 c) c s _ _
      (run_tree kept bus few first (calls kept ls) (run_calls ls pl.1) l.1 l.0 (λ _. ⊥) (λ _ _. ⊥) (λ b m. (b ≡ ret) × K m) c s s.regs None refl refl pl.0.fitting pl.0.reaching (tree_spaced l.1 [] refl pl.0.roomy) ks (as_code kept first l.0 (code l.1 l.0) pl.0.words) k)
      (λ d m b km. ⊎_elim (λ z. absurd z.1) (⊎_elim (λ z. absurd z) (λ z. reach_here kept bus first d m b _ km z)))))
      (λ e k. run_calls ls pl.1 a ret K c s ks k) h

  -- a listing with its calls comes to its goal
  run_listing : (ls : List (ℕ × Tree)) → ArePlaced kept first ls → (T : Tree) (at : ℕ) (K : Goal) (J G : ℕ → Goal) (c : ℕ) (s : Run) → IsPlaced kept first at T → Keeps kept first s → MeetsEach kept (calls kept ls) T at K J G s
      → From kept bus first c s at (EndsAt (at + 4 * size T) K J G)
  run_listing ls pl T at K J G c s p ks h =
      run_tree kept bus few first (calls kept ls) (run_calls ls pl) T at K J G c s s.regs None refl refl p.fitting p.reaching (tree_spaced T [] refl p.roomy) ks (as_code kept first at (code T at) p.words) h

-- ---- runs

-- the goals, with what is known of the ends
abbrev Falling : Goal → (Ending → Type 0) → Goal
Falling K Z m = K m × Z (Falls m)

abbrev Jumping : (ℕ → Goal) → (Ending → Type 0) → ℕ → Goal
Jumping J Z b m = J b m × Z (Jumps b m)

abbrev JumpingTo : (ℕ → Goal) → (Ending → Type 0) → ℕ → Goal
JumpingTo G Z b m = G b m × Z (JumpsTo b m)

module _ (kept : ℕ → Bool) (may : Ins → Context → Bool) (sparing : (i : Ins) (c : Context) → spares kept i c ≡ true → may i c ≡ true) where
  -- what is known of calls holds with a run of each
  record RunsKnown (C : Calls) (R : Called) : Type 1 where
    known : (a back : ℕ) (K : Goal) (s : Run) → C a back K s → C a back (λ m. K m × R a back s m) s

  module _ (C : Calls) (f : Fair C) (R : Called) (runs : RunsKnown C R) where
    -- a tree that meets goals meets them with what is known of the ends of its runs
    abbrev Into : Tree → ℕ → (ℕ → Goal) → (ℕ → Goal) → Type 1
    Into T at J G = (K : Goal) (s : Run) (Z : Ending → Type 0) → ((e : Ending) → Runs may R T at s e → Z e) → MeetsEach kept C T at K J G s → MeetsEach kept C T at (Falling K Z) (Jumping J Z) (JumpingTo G Z) s

    -- a part, and what follows it in the state to which the run goes over
    part_into : (a : Tree) (at : ℕ) (J G : ℕ → Goal) → Into a at J G → (L M : Goal) (B : Run → Ending → Type 0) (s : Run) (Z : Ending → Type 0)
        → ((m : Run) → ((e : Ending) → B m e → Z e) → L m → M m)
        → ((e : Ending) → Then (Runs may R a at) B s e → Z e) → MeetsEach kept C a at L J G s → MeetsEach kept C a at M (Jumping J Z) (JumpingTo G Z) s
    part_into a at J G body L M B s Z rest i h =
        each_mono kept C f a at _ _ _ _ _ _ s (λ m x. rest m (λ y w. i y (inl (m, x.1, w))) x.0) (λ b m x. (x.0, i (Jumps b m) (inr (tt, x.1)))) (λ b m x. (x.0, i (JumpsTo b m) (inr (tt, x.1)))) (body L s (Runs may R a at s) (λ y w. w) h)

    turns_into : (t : Test) (a r : Tree) (at to : ℕ) (K : Goal) (J G : ℕ → Goal) → Into a at J G → Into r to J G
        → (n : ℕ) (s : Run) (Z : Ending → Type 0) → ((e : Ending) → TurnsOf n t (Runs may R a at) (Runs may R r to) s e → Z e)
        → Turns n t (λ L. MeetsEach kept C a at L J G) (MeetsEach kept C r to K J G) s → Turns n t (λ L. MeetsEach kept C a at L (Jumping J Z) (JumpingTo G Z)) (MeetsEach kept C r to (Falling K Z) (Jumping J Z) (JumpingTo G Z)) s
    turns_into t a r at to K J G body rest zero s Z i h = h
    turns_into t a r at to K J G body rest (suc n) s Z i h = (
      λ e. rest K (passing s) Z (λ x w. i x (inl (e, w))) (h.0 e),
      λ e. part_into a at J G body _ _ (λ m. TurnsOf n t (Runs may R a at) (Runs may R r to) (branching m)) (passing s) Z (λ m. turns_into t a r at to K J G body rest n (branching m) Z) (λ x w. i x (inr (e, w))) (h.1 e),
    )

    into : (T : Tree) (at : ℕ) (J G : ℕ → Goal) → Into T at J G
    into Stop at J G K s Z i h = (h, i (Falls s) refl)
    into (Do o r) at J G K s Z i h = (h.0, h.1, λ bus lt. into r (at + 4) J G K (done o s at bus) Z (λ e w. i e (h.0, sparing o _ h.1, (bus, lt, w))) (h.2 bus lt))
    into (When t a r) at J G K s Z i h =
        let end : ℕ = at + (8 + 4 * size a) in (
          λ e. part_into a (at + 8) J G (into a (at + 8) J G) _ _ (Runs may R r end) (passing s) Z (λ m. into r end J G K m Z) (λ x w. i x (inl (e, w))) (h.0 e),
          λ e. into r end J G K (passing s) Z (λ x w. i x (inr (e, w))) (h.1 e),
        )
    into (Choose t a b r) at J G K s Z i h =
        let other : ℕ = at + (16 + 4 * size a) in
        let end : ℕ = at + (16 + 4 * size a + 4 * size b) in (
          λ e. part_into a (at + 8) J G (into a (at + 8) J G) _ _ (λ m. Runs may R r end (branching m)) (passing s) Z (λ m. into r end J G K (branching m) Z) (λ x w. i x (inl (e, w))) (h.0 e),
          λ e. part_into b other J G (into b other J G) _ _ (Runs may R r end) (passing s) Z (λ m. into r end J G K m Z) (λ x w. i x (inr (e, w))) (h.1 e),
        )
    into (Loop t a r) at J G K s Z i h =
        (h.0, turns_into t a r (at + 8) (at + (16 + 4 * size a)) K J G (into a (at + 8) J G) (into r (at + (16 + 4 * size a)) J G) h.0 s Z (λ e w. i e (h.0, w)) h.1)
    into (Visit a r) at J G K s Z i h =
        f.mono a (at + 8) _ _ _ (λ m x. into r (at + 8) J G K m Z (λ e w. i e (m, x.1, w)) x.0) (runs.known a (at + 8) _ _ h)
    into (Go a r) at J G K s Z i h = (h, i (Jumps a (passing s)) refl)
    into (GoTo n r) at J G K s Z i h = (h, i _ refl)

  -- a call of the first listing or of one behind it, as it is known and as it runs
  abbrev Known : ℕ × Tree → List (ℕ × Tree) → Bool → Calls
  Known l ls v a back K s = cond v (MeetsEach kept (calls kept ls) l.1 l.0 (λ _. ⊥) (λ _ _. ⊥) (λ b m. (b ≡ back) × K m) s) (calls kept ls a back K s)

  abbrev Ran : ℕ × Tree → List (ℕ × Tree) → Bool → Called
  Ran l ls v a back s m = cond v (Runs may (called may ls) l.1 l.0 s (JumpsTo back m)) (called may ls a back s m)

  runs_known : (ls : List (ℕ × Tree)) → RunsKnown (calls kept ls) (called may ls)
  runs_known [] = record { known = λ a back K s h. h }
  runs_known (l ∷ ls) =
      let t = runs_known ls in
      record { known = λ a back K s h. go a back K s t (nat_eq a l.0) h }
    where
      go : (a back : ℕ) (K : Goal) (s : Run) → RunsKnown (calls kept ls) (called may ls) → (v : Bool) → Known l ls v a back K s → Known l ls v a back (λ m. K m × Ran l ls v a back s m) s
      go a back K s t true h =
          each_mono kept (calls kept ls) (fair kept ls) l.1 l.0 _ _ _ _ _ _ s (λ m x. x.0) (λ b m x. x.0) (λ b m x. (x.0.0, (x.0.1, subst (λ n. Runs may (called may ls) l.1 l.0 s (JumpsTo n m)) x.0.0 x.1)))
          (into (calls kept ls) (fair kept ls) (called may ls) t l.1 l.0 (λ _ _. ⊥) (λ b m. (b ≡ back) × K m) (λ _. ⊥) s (Runs may (called may ls) l.1 l.0 s) (λ e w. w) h)
      go a back K s t false h = t.known a back K s h

  module _ (ls : List (ℕ × Tree)) (T : Tree) (at : ℕ) (K : Goal) (G : ℕ → Goal) (s : Run) where
    abbrev By : Run → ℕ → Type 0
    By e to = RunsTo may (called may ls) T at s e to

    -- a listing that meets goals meets them by runs of the relation
    pub meets_by_runs : Meets kept (calls kept ls) T at K G s → Meets kept (calls kept ls) T at (λ e. K e × By e (at + 4 * size T)) (λ b e. G b e × By e b) s
    meets_by_runs h =
        each_mono kept (calls kept ls) (fair kept ls) T at _ _ _ _ _ _ s (λ m x. (x.0, inl (refl, x.1))) (λ b m x. (x.0, inr (inl x.1))) (λ b m x. (x.0, inr (inr x.1)))
        (into (calls kept ls) (fair kept ls) (called may ls) (runs_known ls) T at G G K s (Runs may (called may ls) T at s) (λ e w. w) h)

    -- the words come to the goal, by a run of the relation
    pub run_exactly : (bus : ℕ → Bus) (few : (n : ℕ) → (bus n).value < 2 ^ 32) (first : Memory) → ArePlaced kept first ls → (c : ℕ) → IsPlaced kept first at T → Keeps kept first s → Meets kept (calls kept ls) T at K G s
        → Reaches kept bus first (executing s at c) c s (λ e to. (((to ≡ at + 4 * size T) × K e) ⊎ G to e) × By e to)
    run_exactly bus few first pl c p ks h =
        let q = run_listing kept bus few first ls pl T at _ _ _ c s p ks (meets_by_runs h) in
        let z = split q.after q.to q.holds in
        let b : Few s q.after = few_to may ls T at s q.after q.to z.1 in
        record { count = q.count; after = q.after; to = q.to; run = q.run; exact = q.exact; bound = omega (arith, q.exact, b); keeps = q.keeps; holds = z }
      where
        split : (e : Run) (to : ℕ) → EndsAt (at + 4 * size T) (λ m. K m × By m (at + 4 * size T)) (λ b m. G b m × By m b) (λ b m. G b m × By m b) e to → (((to ≡ at + 4 * size T) × K e) ⊎ G to e) × By e to
        split e to h = ⊎_elim (λ x. (inl (x.0, x.1.0), subst (By e) (sym x.0) x.1.1)) (λ x. let y = ⊎_elim (λ u. u) (λ u. u) x in (inr y.0, y.1)) h
