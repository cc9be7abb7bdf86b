-- A call that is served by listings which jump to one another.
use Rattle.std.proofs.Common.{◌≡◌, ℕ, zero, suc, ◌+◌, ◌*◌, ◌≤◌, List, [], ◌∷◌, ⊎_elim, refl, sym, subst, arith}
use Rattle.std.specs.Prelude.{nat_eq}
use Rattle.std.proofs.Math.Nat.{mul-add}
use Rattle.std.proofs.lemmas.Bool.{eqb-true}
use Rattle.psx_base.specs.declared.ports.TheConstants.{HALT_A, HALT_B, HALT_C}
use Rattle.psx_base.specs.Memory.{Memory}
use Rattle.psx_base.specs.KernelState.{KernelState}
use Rattle.psx_flow.specs.Kernel.{kernel_words}
use Rattle.psx_flow.specs.Plain.{kernel_core}
use Rattle.psx_flow.specs.Reaches.{ArePlaced, Keeps}
use Rattle.psx_flow.specs.Run.{Run, state_at}
use Rattle.psx_flow.specs.Tree.{Tree}
use Rattle.kern_layout.specs.Stands.{HoldsRom}
use Rattle.abs_kernel.specs.Answered.{registers_of}
use Rattle.abs_kernel.specs.Stay.{Stay}
use Rattle.abs_run.specs.InKernel.{InKernel}
use Rattle.abs_run.specs.Serves.{Runs}
use Rattle.kern_stay.specs.Follows.{after, given}
use Rattle.kern_stay.specs.Doors.{called_with, begun}
use Rattle.kern_stay.specs.Loops.{earned}
use Rattle.kern_stay.specs.Stages.{Asked, touching, in_all, Leads, RunsAt, Stages, IsServedIn}
use Rattle.kern_entry.specs.Holding.{HoldsEntry}
use Rattle.kern_image.proofs.StaysRuns.{runs_least}
use Rattle.kern_image.proofs.StaysMade.{split}
use Rattle.kern_image.proofs.StaysStage.{after_ends}
use Rattle.kern_image.proofs.StaysDoors.{at_core, IsValid}
use Rattle.kern_image.proofs.StaysServed.{Serving}
use Rattle.kern_image.proofs.StaysLoops.{Made, part, by_rest, by_door, low_ends}

-- what is touched puts steps in
touching_runs : (rom : List ℕ) (touched : List ℕ) (rest : Stay) (n : ℕ) (k : InKernel) → Runs rom rest (n + 128 * in_all touched) k → Runs rom (touching touched rest) n k
touching_runs rom [] rest n k h = let e : n + 128 * 0 ≡ n = omega arith in subst (λ j. Runs rom rest j k) e h
touching_runs rom (t ∷ ts) rest n k h =
    let d : 128 * (t + in_all ts) ≡ 128 * t + 128 * in_all ts = mul-add 128 t (in_all ts) in
    let e : n + 128 * (t + in_all ts) ≡ n + 128 * t + 128 * in_all ts = omega (arith, d) in
    touching_runs rom ts rest (n + 128 * t) k (subst (λ j. Runs rom rest j k) e h)

module _ (rom : List ℕ) (m : Memory) (words : HoldsEntry m) (code : HoldsRom m rom) where
  -- a stay is made from an address on, in as many steps as the bank has and a door takes
  abbrev MadeAt : (at bank : ℕ) → Stay → Run → Type 0
  MadeAt at bank stay e = (a b c : ℕ) → Runs rom stay (73 + bank) (at_core rom a b c (kernel_core (state_at e at)))

  -- whatever is asked at a listing's address, the stay is made from there
  abbrev MakesFrom : Asked → Type 0
  MakesFrom asked = (at bank : ℕ) (stay : Stay) (e : Run) → IsValid stay → Keeps kernel_words m e → asked at bank stay e → MadeAt at bank stay e

  module _ (own : List (ℕ × Tree)) (there : ArePlaced kernel_words m own) (asked : Asked) (makes : MakesFrom asked) (bank : ℕ) (stay : Stay) (valid : IsValid stay) (a b c : ℕ) where
    low : (to : ℕ) (f : Run) → Leads asked bank stay to f → f.steps ≤ bank
    low to f h = ⊎_elim (λ d. low_ends rom m words code (after stay h.told) bank to f d) (λ g. g.few) h.ends

    made : (to : ℕ) (f : Run) → Keeps kernel_words m f → Leads asked bank stay to f → (n : ℕ) → bank ≤ n + f.steps → Made rom m words code a b c stay (73 + n) to f
    made to f kf h n enough =
        let some : 73 ≤ 73 + n = omega arith in
        let A : ℕ = given HALT_A a f.seen in let B : ℕ = given HALT_B b f.seen in let D : ℕ = given HALT_C c f.seen in
        let k : InKernel = at_core rom A B D (kernel_core (state_at f to)) in
        let ends : IsValid (after stay h.told) = after_ends _ _ stay h.told valid in
        ⊎_elim (λ d. by_door rom m words code a b c stay valid (73 + n) some h.told to f kf h.ports h.follows bank d)
        (λ g.
        let most : ℕ = 73 + n + 128 * earned stay h.told in
        let pays = g.pays in
        let d : 128 * (earned stay h.told + in_all g.touched) ≡ 128 * earned stay h.told + 128 * in_all g.touched = mul-add 128 (earned stay h.told) (in_all g.touched) in
        let rest : Runs rom g.rest (73 + g.left) k = makes to g.left g.rest f (still_valid g.touched g.rest (subst IsValid g.is ends)) kf g.holds A B D in
        let r : Runs rom (touching g.touched g.rest) most k = touching_runs rom g.touched g.rest most k (runs_least rom g.rest (73 + g.left) (most + 128 * in_all g.touched) k (omega (arith, pays, d, enough)) rest) in
        by_rest rom m words code a b c stay valid (73 + n) some h.told to f kf h.ports h.follows most (omega arith) (subst (λ y. Runs rom y most k) (sym g.is) r)) h.ends
      where
        still_valid : (touched : List ℕ) (rest : Stay) → IsValid (touching touched rest) → IsValid rest
        still_valid [] rest v = v
        still_valid (t ∷ ts) rest v = still_valid ts rest v

    stage : (at : ℕ) (e : Run) → Keeps kernel_words m e → (ls : List (ℕ × Tree)) → ArePlaced kernel_words m ls → RunsAt own ls at (λ to f. Leads asked bank stay to f) e → Runs rom stay (73 + bank) (at_core rom a b c (kernel_core (state_at e at)))
    stage at e ke [] placed h = absurd h
    stage at e ke (l ∷ ls) placed h =
        split (nat_eq at l.0) _ _ _
        (λ v x.
        subst (λ j. Runs rom stay (73 + bank) (at_core rom a b c (kernel_core (state_at e j)))) (sym (eqb-true at l.0 v))
        (part rom m words code a b c stay own there l.1 l.0 placed.0 73 bank (λ to f. Leads asked bank stay to f) low made (begun e.regs e.cop0 e.bytes) (record { bytes = ke.bytes; masked = ke.masked }) refl refl x))
        (λ v y. stage at e ke ls placed.1 y) h

  stages_run : (own : List (ℕ × Tree)) → ArePlaced kernel_words m own → (parts : List (ℕ × Tree)) → ArePlaced kernel_words m parts → (n : ℕ) → MakesFrom (Stages own parts n)
  stages_run own there parts placed zero at bank stay e valid ke h a b c = absurd h
  stages_run own there parts placed (suc n) at bank stay e valid ke h a b c = stage own there (Stages own parts n) (stages_run own there parts placed n) bank stay valid a b c at e ke parts placed h

  pub by_stages : (most : ℕ) (stay : KernelState → Stay) (at : ℕ) → IsServedIn m most stay at → Serving rom m words code (73 + most) stay at
  by_stages most stay at s a b c t regs z valid h off =
      let r = s.serves t regs z m h in
      stages_run s.own s.own_placed s.parts s.parts_placed r.0 at most (stay t) (begun (called_with (registers_of t) regs) z m) valid (record { bytes = λ x e. refl; masked = off }) r.1 a b c
