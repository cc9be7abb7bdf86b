-- A loop over the words of a buffer, by calls in its body, with twelve registers that move up by one each turn.
use Rattle.psx_flow.proofs.Kit.{ℕ, List, [], ◌∷◌, Registers, Run, Goal, Calls, Fair, Tree, Stop, Loop, Meets, Anew, kernel_words, while, Turn, Sym, ended}
use Rattle.kern_stay.proofs.Looping.{loop_test, loop_body, behind_loop}

-- what follows the loop, which calls nothing and so doesn't depend on its address
abbrev Behind : Calls → Tree → (ℕ → Goal) → Goal
Behind C T G = Anew (Sym C (behind_loop T) 0 (ended (λ _. ⊥)) G)

-- one turn of the loop of a listing, at its address, by the number of words to come
abbrev pub TurningAt : Calls → Tree → (at : ℕ) → (ℕ → Goal) → (ℕ → Goal) → ℕ → Goal
TurningAt C T at G Inv k e = Turn C (loop_test T) (loop_body T) at (Sym C (behind_loop T) 0 (ended (λ _. ⊥)) G) G ℕ (λ i. i) Inv k e

abbrev pub FromLoopAt : Calls → Tree → (at : ℕ) → (ℕ → Goal) → Goal
FromLoopAt C T at G e = Meets kernel_words C (Loop (loop_test T) (loop_body T) Stop) at (Behind C T G) G e

pub looped_at : (C : Calls) → Fair C → (T : Tree) (at : ℕ) (G : ℕ → Goal) (Inv : ℕ → Goal)
    → ((k : ℕ) (e : Run) → Inv k e → TurningAt C T at G Inv k e) → (k : ℕ) (e : Run) → Inv k e → FromLoopAt C T at G e
looped_at C fair T at G Inv turn k e h = while C fair (loop_test T) (loop_body T) at (Sym C (behind_loop T) 0 (ended (λ _. ⊥)) G) G ℕ (λ i. i) Inv turn k e h

-- the registers that move up, and all but the first of them
abbrev pub moving_up : Registers → List ℕ
moving_up c = c.r14 ∷ c.r15 ∷ c.r16 ∷ c.r17 ∷ c.r18 ∷ c.r19 ∷ c.r20 ∷ c.r21 ∷ c.r22 ∷ c.r23 ∷ c.r24 ∷ []

abbrev pub moving : Registers → List ℕ
moving c = c.r13 ∷ moving_up c
