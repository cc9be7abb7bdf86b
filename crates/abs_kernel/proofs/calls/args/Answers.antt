use Rattle.std.proofs.Common.{rules, tests, refl, ap, Some, None}
use Rattle.std.specs.Prelude.{map, option_map, unwrap_or}
use Rattle.std.proofs.lemmas.Iterator.{YieldsList-from_slice}
use Rattle.std.proofs.lemmas.Iterator.Search.{find_from_yields_List}
use Rattle.abs_kernel.specs.CallTable.{same_call}
use Rattle.abs_kernel.proofs.Search.{row_of, found}
use Rattle.abs_kernel.proofs.calls.args.Goals as goal

pub returns-in-Some : goal.returns-in-Some
returns-in-Some c =
    let rows = c.iter.result.rest.now in
    let ran = find_from_yields_List (λ r. same_call r.2 c.args.id) _ _ c.find.result c.find.ensures.ran (YieldsList-from_slice rows refl) (λ x b q k. search (rules, tests)) in
    found (λ row. same_call row.2 c.args.id) (λ o. unwrap_or (option_map (λ row. row.3) o) 0) rows c.find.result (Some c.in-Some.row) c.in-Some.is ran (ap (map row_of) c.iter.ensures.rest)

pub returns-in-None : goal.returns-in-None
returns-in-None c =
    let rows = c.iter.result.rest.now in
    let ran = find_from_yields_List (λ r. same_call r.2 c.args.id) _ _ c.find.result c.find.ensures.ran (YieldsList-from_slice rows refl) (λ x b q k. search (rules, tests)) in
    found (λ row. same_call row.2 c.args.id) (λ o. unwrap_or (option_map (λ row. row.3) o) 0) rows c.find.result None c.in-None.is ran (ap (map row_of) c.iter.ensures.rest)
