use Rattle.std.proofs.Common.{rules, tests, nat_eq, refl, ap, Some, None}
use Rattle.std.specs.Prelude.{map, option_map, ◌&&◌}
use Rattle.std.proofs.lemmas.Iterator.{YieldsList-from_slice}
use Rattle.std.proofs.lemmas.Iterator.Search.{find_from_yields_List}
use Rattle.abs_kernel.specs.CallTable.{same_table}
use Rattle.abs_kernel.proofs.Search.{row_of, found}
use Rattle.abs_kernel.proofs.calls.served.Goals as goal

pub returns-in-Some : goal.returns-in-Some
returns-in-Some c =
    let rows = c.iter.result.rest.now in
    let ran = find_from_yields_List (λ r. same_table r.0 c.args.table && nat_eq r.1 c.args.number) _ _ c.find.result c.find.ensures.ran (YieldsList-from_slice rows refl) (λ x b q k. search (rules, tests)) in
    found (λ row. same_table row.0 c.args.table && nat_eq row.1 c.args.number) (option_map (λ row. row.2)) rows c.find.result (Some c.in-Some.row) c.in-Some.is ran (ap (map row_of) c.iter.ensures.rest)

pub returns-in-None : goal.returns-in-None
returns-in-None c =
    let rows = c.iter.result.rest.now in
    let ran = find_from_yields_List (λ r. same_table r.0 c.args.table && nat_eq r.1 c.args.number) _ _ c.find.result c.find.ensures.ran (YieldsList-from_slice rows refl) (λ x b q k. search (rules, tests)) in
    found (λ row. same_table row.0 c.args.table && nat_eq row.1 c.args.number) (option_map (λ row. row.2)) rows c.find.result None c.in-None.is ran (ap (map row_of) c.iter.ensures.rest)
