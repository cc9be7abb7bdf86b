use Rattle.std.proofs.Common.{◌+◌, All, arith, rules, sym, subst}
use Rattle.std.proofs.lemmas.Grind.{common_steps}
use Rattle.std.proofs.lemmas.List.Elements.{All-push}
use Rattle.psx_trace.specs.Reading.{IsItem, IsTraceOf, IsFirstBad}
use Rattle.psx_trace.proofs.SameItems.{same_items, not_trace}
use Rattle.psx_trace.proofs.read.Trace.read.Goals as goal

pub returns-in_default-clause-bad : goal.returns-in_default-clause-bad
returns-in_default-clause-bad c line is items trace =
    let bad : IsFirstBad c.args.text.now (c.len.result + 1) = search rules in
    not_trace c.args.text.now (c.len.result + 1) bad items trace

pub loop-rest-preserved : goal.loop-rest-preserved
loop-rest-preserved c = record {
  fit = subst (All IsItem) (sym c.in-Ok.ensures.items) (All-push IsItem c.loop-rest.items.items c.in-Some.item c.loop-rest.invariant.fit c.in-Some.ensures.found.0);
  is = grind (arith, common_steps);
  room = grind (arith, common_steps);
}

pub returns-clause-only : goal.returns-clause-only
returns-clause-only c items trace =
    let all : IsTraceOf c.args.text.now c.loop-rest.items.items = record { fit = c.loop-rest.invariant.fit; is = grind (arith, common_steps) } in
    same_items c.args.text.now c.loop-rest.items.items items all trace
