-- By the same over trees.
use Rattle.std.proofs.Common.{ℕ, Bool, ⊎_elim, refl, subst, sym, arith}
use Rattle.psx_base.specs.Memory.{Memory}
use Rattle.psx_flow.specs.Run.{Run, spares}
use Rattle.psx_flow.specs.Runs.{Falls, Jumps, JumpsTo}
use Rattle.psx_flow.specs.Laws.{IsMade}
use Rattle.psx_flow.specs.Plain.{executing}
use Rattle.psx_flow.specs.Reaches.{Keeps}
use Rattle.psx_flow.proofs.Counts.{Few, few_to}
use Rattle.psx_flow.proofs.Following.{Follows}
use Rattle.psx_flow.proofs.Follow.{follow_listing}
use Rattle.psx_flow.proofs.law.runs_are_made.Goals as goal

made : (kept : ℕ → Bool) (first : Memory) (s : Run) (at : ℕ) (e : Run) (to c : ℕ) → Few s e → Follows kept first (executing s at c) c s.steps e to → IsMade s at e to c
made kept first s at e to c few q = record { answers = q.answers; few = q.few; count = q.count; run = q.run; exact = q.exact; bound = omega (arith, few, q.exact) }

pub returns : goal.returns
returns a = λ kept ls T at s given e to h c.
    let few = few_to (spares kept) ls T at s e to h in
    let ks : Keeps kept s.bytes s = record { bytes = λ x i. refl; masked = given.masked } in
    ⊎_elim
    (λ x. subst (λ n. IsMade s at e n c) (sym x.0) (made kept s.bytes s at e _ c few (follow_listing kept s.bytes ls given.calls T at c s (Falls e) given.placed ks x.1)))
    (⊎_elim
    (λ x. made kept s.bytes s at e to c few (follow_listing kept s.bytes ls given.calls T at c s (Jumps to e) given.placed ks x))
    (λ x. made kept s.bytes s at e to c few (follow_listing kept s.bytes ls given.calls T at c s (JumpsTo to e) given.placed ks x)))
    h
