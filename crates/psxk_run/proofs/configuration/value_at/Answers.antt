use Rattle.std.proofs.Common.{◌∙◌, ◌∷◌, ◌++◌, [], ap, sym, subst, drop, length}
use Rattle.std.proofs.lemmas.Bool.{both_ways}
use Rattle.std.proofs.lemmas.Bool.Decides.{Decides-eqb}
use Rattle.std.proofs.lemmas.Slice.Eq.{starts_is}
use Rattle.psxk_run.specs.Config.{behind, Assigns}
use Rattle.psxk_run.proofs.ConfigParts.{key_part, value_part, same_value, assigns}
use Rattle.psxk_run.proofs.configuration.value_at.Goals as goal

pub returns-then-not-starts_with-clause-none : goal.returns-then-not-starts_with-clause-none
returns-then-not-starts_with-clause-none c has =
    let line = c.args.line.now in
    let key = c.args.key.now in
    let test = starts_is Decides-eqb c.skip_blanks-text.result.now key c.starts_with.result c.starts_with.ensures.value in
    both_ways c.starts_with.result c.if-not-starts_with.true
    (test.1 (has.1.between ++ (61 ∷ has.0)) (c.skip_blanks-text.ensures ∙ key_part line key has.0 c.requires.some c.requires.no_blank has.1))

pub returns-then-not-starts_with-2-clause-none : goal.returns-then-not-starts_with-2-clause-none
returns-then-not-starts_with-2-clause-none c has =
    let line = c.args.line.now in
    let key = c.args.key.now in
    let test = starts_is Decides-eqb c.skip_blanks-rest.result.now (61 ∷ []) c.starts_with-2.result c.starts_with-2.ensures.value in
    let rest = c.skip_blanks-rest.ensures ∙ ap behind (c.skip.ensures ∙ ap (drop (length key)) c.skip_blanks-text.ensures) in
    both_ways c.starts_with-2.result c.if-not-starts_with-2.true
    (test.1 has.0 (rest ∙ value_part line key has.0 c.requires.some c.requires.no_blank has.1))

pub returns-clause-found : goal.returns-clause-found
returns-clause-found c =
    let key = c.args.key.now in
    let text = c.skip_blanks-text.result.now in
    let rest = c.skip_blanks-rest.result.now in
    let first = starts_is Decides-eqb text key c.starts_with.result c.starts_with.ensures.value in
    let second = starts_is Decides-eqb rest (61 ∷ []) c.starts_with-2.result c.starts_with-2.ensures.value in
    let is_key = sym c.skip_blanks-text.ensures ∙ first.0 c.if-not-starts_with.false in
    let is_value = sym (c.skip_blanks-rest.ensures ∙ ap behind c.skip.ensures) ∙ second.0 c.if-not-starts_with-2.false in
    subst (Assigns c.args.line.now key) (sym c.skip-2.ensures) (assigns c.args.line.now key (drop (length key) text) (drop 1 rest) is_key is_value)

pub returns-clause-only : goal.returns-clause-only
returns-clause-only c other at =
    same_value c.args.line.now c.args.key.now other c.skip-2.result.now c.requires.some c.requires.no_blank at (returns-clause-found c)
