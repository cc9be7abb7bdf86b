use Rattle.std.proofs.lemmas.List.{map-append}
use Rattle.psx_asm.specs.Shown.{shown_value}
use Rattle.psx_asm.proofs.ValueLists.{joined_none, joined_some}
use Rattle.psx_asm.proofs.directive.values.Goals as goal

pub returns-in_default : goal.returns-in_default
returns-in_default c = joined_none _ c.args.pieces.now c.loop-at.at _ c.loop-at-test.true c.in_default.ensures.value c.loop-at.invariant.so_far

pub loop-at-preserved : goal.loop-at-preserved
loop-at-preserved c = record {
  within = c.in-Some.ensures.further.1;
  so_far = rw c.in_ok-push.ensures.items (simp map-append (joined_some _ c.args.pieces.now c.loop-at.at _ (shown_value c.in-Some.first) _ c.loop-at-test.true c.in-Some.ensures.value c.loop-at.invariant.so_far));
}
