-- By the walk, with the runs of the relation as goals.
use Rattle.std.proofs.Common.{◌+◌, ◌-◌, ◌*◌, refl, arith}
use Rattle.psx_flow.specs.Tree.{size}
use Rattle.psx_flow.specs.Runs.{any}
use Rattle.psx_flow.proofs.Exact.{meets_by_runs}
use Rattle.kern_entry.specs.Within.{Within}
use Rattle.kern_entry.specs.WalkLaws.{EndsRun}
use Rattle.kern_entry.proofs.Walk.{walk_placed, within_backs, within_here}
use Rattle.kern_entry.proofs.stepwise.words_walk.Goals as goal

pub returns : goal.returns
returns a = λ kept ls T at s given ends most few.
    walk_placed kept s.bytes (Within (EndsRun ls T at s)) (within_backs (EndsRun ls T at s)) most ls given.calls T at _ _ most s (omega arith) given.placed (record { bytes = λ x e. refl; masked = given.masked }) (record {
      low = λ e z. few e (at + 4 * size T) z.1;
      low_jump = λ b e z. few e b z.1;
      here = λ e ke z n lt. within_here _ n _ _ (e, at + 4 * size T, z.1, refl, refl);
      jump = λ b e ke z n lt. within_here _ n _ _ (e, b, z.1, refl, refl);
    }) (meets_by_runs kept any (λ i c e. refl) ls T at (λ _. Unit {0}) (λ _ _. Unit {0}) s ends) (most - s.steps) (omega arith)
