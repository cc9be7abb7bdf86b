-- A run of a listing makes no more steps than the states of its goals have made.
use Rattle.std.proofs.Common.{◌≡◌, ℕ, zero, suc, ◌+◌, ◌*◌, ◌≤◌, List, [], ◌∷◌, Bool, true, false, cond, arith, ⊎_elim}
use Rattle.std.specs.Prelude.{nat_eq}
use Rattle.psx_base.specs.Registers.{register}
use Rattle.psx_cpu.specs.Processor.{idle}
use Rattle.psx_flow.specs.declared.node.Test.{Test}
use Rattle.psx_flow.specs.Tree.{Tree, Stop, Do, When, Choose, Loop, Visit, Go, GoTo, size}
use Rattle.psx_flow.specs.Run.{Run, done}
use Rattle.psx_flow.specs.Meets.{passing, branching, linking, Goal, Calls, Turns, MeetsEach, Meets, calls}
use Rattle.psx_flow.proofs.Rules.{decided, fair, meets_back}

-- no state of a goal has made more than `most` steps
abbrev pub Low : ℕ → Goal → Type 0
Low most K = (e : Run) → K e → e.steps ≤ most

module _ (kept : ℕ → Bool) (most : ℕ) where
  -- what is known of a call
  pub record LowCalls (C : Calls) : Type 1 where
    pub low : (a back : ℕ) (K : Goal) (s : Run) → Low most K → C a back K s → s.steps ≤ most

  made_one : (s : Run) → suc s.steps ≤ most → s.steps ≤ most
  made_one s h = omega arith

  made_two : (s : Run) → suc (suc s.steps) ≤ most → s.steps ≤ most
  made_two s h = omega arith

  module _ (C : Calls) (known : LowCalls C) where
    pub low_turns : (n : ℕ) (t : Test) (body : Goal → Goal) (K : Goal) (s : Run) → ((L : Goal) (e : Run) → Low most L → body L e → e.steps ≤ most) → Low most K → Turns n t body K s → s.steps ≤ most
    low_turns zero t body K s b k h = absurd h
    low_turns (suc n) t body K s b k h =
        made_two s (⊎_elim (λ y. b (λ m. Turns n t body K (branching m)) (passing s) (λ e w. made_two e (low_turns n t body K (branching e) b k w)) (h.1 y)) (λ y. k (passing s) (h.0 y)) (decided t s.regs))

    pub low : (T : Tree) (at : ℕ) (K : Goal) (G : ℕ → Goal) (s : Run) → Low most K → ((b : ℕ) → Low most (G b)) → Meets kept C T at K G s → s.steps ≤ most
    low Stop at K G s k g h = k s h
    low (Do i r) at K G s k g h = made_one s (low r (at + 4) K G (done i s at idle) k g (h.2 idle (omega arith)))
    low (When t a r) at K G s k g h =
        made_two s (⊎_elim (λ y. low a (at + 8) _ G (passing s) (λ e w. low r (at + (8 + 4 * size a)) K G e k g w) g (h.0 y)) (λ y. low r (at + (8 + 4 * size a)) K G (passing s) k g (h.1 y)) (decided t s.regs))
    low (Choose t a b r) at K G s k g h =
        let rest = at + (16 + 4 * size a + 4 * size b) in
        made_two s (⊎_elim (λ y. low a (at + 8) (λ m. Meets kept C r rest K G (branching m)) G (passing s) (λ e w. made_two e (low r rest K G (branching e) k g w)) g (h.0 y)) (λ y. low b (at + (16 + 4 * size a)) _ G (passing s) (λ e w. low r rest K G e k g w) g (h.1 y)) (decided t s.regs))
    low (Loop t a r) at K G s k g h =
        low_turns h.0 t (λ L. Meets kept C a (at + 8) L G) (Meets kept C r (at + (16 + 4 * size a)) K G) s (λ L e w. low a (at + 8) L G e w g) (λ e w. low r (at + (16 + 4 * size a)) K G e k g w) h.1
    low (Visit a r) at K G s k g h = made_two s (known.low a (at + 8) _ (linking s (at + 8)) (λ e w. low r (at + 8) K G e k g w) h)
    low (Go a r) at K G s k g h = made_two s (g a (passing s) h)
    low (GoTo n r) at K G s k g h = made_two s (g (register s.regs n.0) (passing s) h)

  pub low_calls : (ls : List (ℕ × Tree)) → LowCalls (calls kept ls)
  low_calls [] = record { low = λ a back K s k h. absurd h }
  low_calls (l ∷ ls) = let f = low_calls ls in record { low = λ a back K s k h. go f a back K s k (nat_eq a l.0) h }
    where
      go : LowCalls (calls kept ls) → (a back : ℕ) (K : Goal) (s : Run) → Low most K → (v : Bool) → cond v (MeetsEach kept (calls kept ls) l.1 l.0 (λ _. ⊥) (λ _ _. ⊥) (λ b m. (b ≡ back) × K m) s) (calls kept ls a back K s) → s.steps ≤ most
      go f a back K s k true h = low (calls kept ls) f l.1 l.0 (λ _. ⊥) (λ b m. (b ≡ back) × K m) s (λ e w. absurd w) (λ b e w. k e w.1) (meets_back kept (calls kept ls) (fair kept ls) l.1 l.0 (λ _. ⊥) (λ b m. (b ≡ back) × K m) s h)
      go f a back K s k false h = f.low a back K s k h
