use Rattle.std.proofs.Common.{◌∙◌, ◌++◌, ℕ, List, ap, sym, drop, length}
use Rattle.std.proofs.lemmas.Bool.Decides.{Decides-eqb}
use Rattle.std.proofs.lemmas.Slice.Eq.{starts_is}
use Rattle.psx_sched.proofs.text.begins_with.Goals as goal

pub returns-clause-begun : goal.returns-clause-begun
returns-clause-begun c test =
    let same = c.as_slice.ensures.value ∙ c.line_of.ensures.items in
    let rest = drop (length c.as_slice.result.now) c.args.text.now in
    let begun = (starts_is Decides-eqb c.args.text.now c.as_slice.result.now c.starts_with.result c.starts_with.ensures.value).0 test in
    (rest, begun ∙ ap (λ (l : List ℕ). l ++ rest) same)

pub returns-clause-other : goal.returns-clause-other
returns-clause-other c test begins =
    let same = c.as_slice.ensures.value ∙ c.line_of.ensures.items in
    let begun = (starts_is Decides-eqb c.args.text.now c.as_slice.result.now c.starts_with.result c.starts_with.ensures.value).1 begins.0 (begins.1 ∙ ap (λ (l : List ℕ). l ++ begins.0) (sym same)) in
    cc (begun, test)
