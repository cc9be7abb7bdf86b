use Rattle.std.proofs.Common.{◌≡◌, ◌∙◌, true, false, [], Option, Some, None, IfSome, IfNone, is_some, inl, inr, ⊎_elim, sym, arith}
use Rattle.std.proofs.lemmas.Grind.{common_steps}
use Rattle.psxk_run.specs.declared.configuration.Setting.TheVariants.{Nothing, Threads, Events}
use Rattle.psxk_run.specs.Config.{Says}
use Rattle.psxk_run.proofs.ConfigParts.{all_blank, none_behind}
use Rattle.psxk_run.proofs.configuration.says.Goals as goal

some_given : {A : Type 0} (r : Option A) (P : A → Type 0) → is_some r ≡ true → IfSome r P → (a : A) × P a
some_given None P test p = cc
some_given (Some a) P test p = (a, p)

none_given : {A : Type 0} (r : Option A) (P : Type 0) → is_some r ≡ false → IfNone r P → P
none_given None P test p = p
none_given (Some a) P test p = cc

pub returns-then-is_empty-clause-found : goal.returns-then-is_empty-clause-found
returns-then-is_empty-clause-found c =
    let none : c.skip_blanks.result.now ≡ [] = grind (arith, common_steps) in
    inl (all_blank c.args.line.now (sym c.skip_blanks.ensures ∙ none))

pub returns-then-is_some-2-clause-found : goal.returns-then-is_some-2-clause-found
returns-then-is_some-2-clause-found c =
    let given = some_given c.value_at-2.result _ (sym c.is_some-2.ensures ∙ c.if-is_some-2.true) c.value_at-2.ensures.found in
    inr (inr (given.0.now, given.1))

pub returns-clause-none : goal.returns-clause-none
returns-clause-none c s = elim s as (λ s. Says c.args.line.now s → ⊥) [
  | Nothing ↦ ⊎_elim
      (λ blank. let none : c.skip_blanks.result.now ≡ [] = c.skip_blanks.ensures ∙ none_behind c.args.line.now blank in grind (arith, common_steps))
      (⊎_elim (none_given c.value_at.result _ (sym c.is_some.ensures ∙ c.if-is_some.false) c.value_at.ensures.none)
      (none_given c.value_at-2.result _ (sym c.is_some-2.ensures ∙ c.if-is_some-2.false) c.value_at-2.ensures.none))
  | Threads n ↦ c.in_default.ensures.none n
  | Events n ↦ c.in_default-number_at.ensures.none n
]
