use Rattle.std.proofs.Common.{ℕ, List, Option, Some, None, IfNone, subst}
use Rattle.psxk_run.specs.Config.{IsHexadecimal}
use Rattle.psxk_run.proofs.configuration.number_at.Goals as goal

if_none : {A : Type 0} (r : Option A) (P Q : Type 0) → IfNone r P → (P → Q) → IfNone r Q
if_none None P Q p f = f p
if_none (Some a) P Q p f = tt

pub returns-clause-none : goal.returns-clause-none
returns-clause-none c =
    if_none c.number.result ((n : ℕ) → IsHexadecimal c.in-Some.value.now n → ⊥) _ c.number.ensures.none
    (λ none n has. none n (subst (λ (value : List ℕ). IsHexadecimal value n) (c.in-Some.ensures.only has.0 has.1) has.2))
