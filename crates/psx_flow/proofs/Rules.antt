-- The rules over `Meets`.
use Rattle.std.proofs.Common.{◌≡◌, ℕ, zero, suc, ◌+◌, ◌^◌, ◌<◌, ◌≤◌, ◌⊎◌, inl, inr, List, [], ◌∷◌, Bool, true, false, cond, arith, ⊎_elim}
use Rattle.std.proofs.lemmas.Bool.{cases_eq, cases_lt, false≢true}
use Rattle.std.specs.Prelude.{nat_eq, ◌&&◌}
use Rattle.psx_base.specs.Registers.{Registers, register}
use Rattle.psx_flow.specs.declared.node.Test.{Test}
use Rattle.psx_flow.specs.declared.node.Test.TheVariants.{Same, Differ, NotAbove, Above, Negative, NotNegative}
use Rattle.psx_flow.specs.Tree.{Tree, Stop, Do, When, Choose, Loop, Visit, Go, GoTo}
use Rattle.psx_flow.specs.Lowered.{opposite}
use Rattle.psx_flow.specs.Run.{Run, done}
use Rattle.psx_flow.proofs.Step.{both}
use Rattle.psx_flow.specs.Meets.{TestHolds, branching, Goal, Calls, Turns, MeetsEach, Meets, calls}

not_above : (v : ℕ) → ((v ≡ 0) ⊎ (2 ^ 31 ≤ v)) ⊎ ((0 < v) × (v < 2 ^ 31))
not_above v = ⊎_elim (λ lt. ⊎_elim (λ e. inl (inl e)) (λ ne. inr (omega arith, lt)) (cases_eq v 0)) (λ ge. inl (inr ge)) (cases_lt v (2 ^ 31))

-- either a test holds, or its opposite
pub decided : (t : Test) (c : Registers) → TestHolds t c ⊎ TestHolds (opposite t) c
decided (Same a b) c = cases_eq (register c a.0) (register c b.0)
decided (Differ a b) c = ⊎_elim inr inl (cases_eq (register c a.0) (register c b.0))
decided (NotAbove a) c = not_above (register c a.0)
decided (Above a) c = ⊎_elim inr inl (not_above (register c a.0))
decided (Negative a) c = ⊎_elim inr inl (cases_lt (register c a.0) (2 ^ 31))
decided (NotNegative a) c = cases_lt (register c a.0) (2 ^ 31)

-- what is known of calls holds of weaker goals
pub record Fair (C : Calls) : Type 1 where
  pub mono : (a back : ℕ) (K L : Goal) (s : Run) → ((m : Run) → K m → L m) → C a back K s → C a back L s

turns_mono : (t : Test) (b c : Goal → Goal) → ((K L : Goal) (s : Run) → ((m : Run) → K m → L m) → b K s → c L s) → (n : ℕ) (K L : Goal) (s : Run) → ((m : Run) → K m → L m) → Turns n t b K s → Turns n t c L s
turns_mono t b c mono zero K L s f h = h
turns_mono t b c mono (suc n) K L s f h = (λ e. f _ (h.0 e), λ e. mono _ _ _ (λ m. turns_mono t b c mono n K L (branching m) f) (h.1 e))

-- a tree that holds no Jump
abbrev pub no_jump : Tree → Bool
no_jump Stop = true
no_jump (Do i r) = no_jump r
no_jump (When t a r) = no_jump a && no_jump r
no_jump (Choose t a b r) = no_jump a && (no_jump b && no_jump r)
no_jump (Loop t a r) = no_jump a && no_jump r
no_jump (Visit a r) = no_jump r
no_jump (Go a r) = false
no_jump (GoTo n r) = no_jump r

cond_map : (b : Bool) (P Q R S : Type 0) → (P → R) → (Q → S) → cond b P Q → cond b R S
cond_map true P Q R S f g h = f h
cond_map false P Q R S f g h = g h

module _ (kept : ℕ → Bool) where
  pub each_mono : (C : Calls) → Fair C → (T : Tree) (at : ℕ) (K L : Goal) (I J G H : ℕ → Goal) (s : Run) → ((m : Run) → K m → L m) → ((a : ℕ) (m : Run) → I a m → J a m) → ((a : ℕ) (m : Run) → G a m → H a m)
      → MeetsEach kept C T at K I G s → MeetsEach kept C T at L J H s
  each_mono C fair Stop at K L I J G H s f i g h = f s h
  each_mono C fair (Do o r) at K L I J G H s f i g h = (h.0, h.1, λ bus lt. each_mono C fair r (at + 4) K L I J G H (done o s at bus) f i g (h.2 bus lt))
  each_mono C fair (When t a r) at K L I J G H s f i g h =
      (λ e. each_mono C fair a _ _ _ I J G H _ (λ m. each_mono C fair r _ K L I J G H m f i g) i g (h.0 e), λ e. each_mono C fair r _ K L I J G H _ f i g (h.1 e))
  each_mono C fair (Choose t a b r) at K L I J G H s f i g h = (
    λ e. each_mono C fair a _ _ _ I J G H _ (λ m. each_mono C fair r _ K L I J G H (branching m) f i g) i g (h.0 e),
    λ e. each_mono C fair b _ _ _ I J G H _ (λ m. each_mono C fair r _ K L I J G H m f i g) i g (h.1 e),
  )
  each_mono C fair (Loop t a r) at K L I J G H s f i g h =
      (h.0, turns_mono t _ _ (λ K' L' m f'. each_mono C fair a _ K' L' I J G H m f' i g) h.0 _ _ s (λ m. each_mono C fair r _ K L I J G H m f i g) h.1)
  each_mono C fair (Visit a r) at K L I J G H s f i g h = fair.mono a _ _ _ _ (λ m. each_mono C fair r _ K L I J G H m f i g) h
  each_mono C fair (Go a r) at K L I J G H s f i g h = i a _ h
  each_mono C fair (GoTo n r) at K L I J G H s f i g h = g _ _ h

  pub meets_mono : (C : Calls) → Fair C → (T : Tree) (at : ℕ) (K L : Goal) (G H : ℕ → Goal) (s : Run) → ((m : Run) → K m → L m) → ((a : ℕ) (m : Run) → G a m → H a m) → Meets kept C T at K G s → Meets kept C T at L H s
  meets_mono C fair T at K L G H s f g h = each_mono C fair T at K L G H G H s f g g h

  pub fair : (ls : List (ℕ × Tree)) → Fair (calls kept ls)
  fair [] = record { mono = λ a back K L s f h. h }
  fair (l ∷ ls) =
      let f = fair ls in
      record { mono = λ a back K L s g h. cond_map (nat_eq a l.0) _ _ _ _ (each_mono (calls kept ls) f l.1 l.0 _ _ _ _ _ _ s (λ m x. x) (λ b m x. x) (λ b m x. (x.0, g m x.1))) (f.mono a back K L s g) h }

  -- what is called ends by a JumpTo, so by a jump
  pub meets_back : (C : Calls) → Fair C → (T : Tree) (at : ℕ) (K : Goal) (G : ℕ → Goal) (s : Run) → MeetsEach kept C T at K (λ _ _. ⊥) G s → Meets kept C T at K G s
  meets_back C fair T at K G s h = each_mono C fair T at K K (λ _ _. ⊥) G G G s (λ m x. x) (λ a m x. absurd x) (λ a m x. x) h

  -- and what holds no Jump ends by none
  pub by_no_jump : (C : Calls) → Fair C → (T : Tree) (at : ℕ) (K L : Goal) (J G : ℕ → Goal) (s : Run) → no_jump T ≡ true → ((m : Run) → K m → L m) → MeetsEach kept C T at K J G s → MeetsEach kept C T at L (λ _ _. ⊥) G s
  by_no_jump C fair Stop at K L J G s e f h = f s h
  by_no_jump C fair (Do o r) at K L J G s e f h = (h.0, h.1, λ bus lt. by_no_jump C fair r (at + 4) K L J G (done o s at bus) e f (h.2 bus lt))
  by_no_jump C fair (When t a r) at K L J G s e f h =
      let b = both (no_jump a) (no_jump r) e in
      (λ y. by_no_jump C fair a _ _ _ J G _ b.0 (λ m. by_no_jump C fair r _ K L J G m b.1 f) (h.0 y), λ y. by_no_jump C fair r _ K L J G _ b.1 f (h.1 y))
  by_no_jump C fair (Choose t a c r) at K L J G s e f h =
      let b = both (no_jump a) (no_jump c && no_jump r) e in
      let d = both (no_jump c) (no_jump r) b.1 in (
        λ y. by_no_jump C fair a _ _ _ J G _ b.0 (λ m. by_no_jump C fair r _ K L J G (branching m) d.1 f) (h.0 y),
        λ y. by_no_jump C fair c _ _ _ J G _ d.0 (λ m. by_no_jump C fair r _ K L J G m d.1 f) (h.1 y),
      )
  by_no_jump C fair (Loop t a r) at K L J G s e f h =
      let b = both (no_jump a) (no_jump r) e in
      (h.0, turns_mono t _ _ (λ K' L' m f'. by_no_jump C fair a _ K' L' J G m b.0 f') h.0 _ _ s (λ m. by_no_jump C fair r _ K L J G m b.1 f) h.1)
  by_no_jump C fair (Visit a r) at K L J G s e f h = fair.mono a _ _ _ _ (λ m. by_no_jump C fair r _ K L J G m e f) h
  by_no_jump C fair (Go a r) at K L J G s e f h = absurd (false≢true e)
  by_no_jump C fair (GoTo n r) at K L J G s e f h = h
