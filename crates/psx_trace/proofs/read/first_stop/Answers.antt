use Rattle.std.proofs.Common.{subst, below_more, arith}
use Rattle.std.proofs.lemmas.List.{get_or_default}
use Rattle.psx_base.specs.declared.stop.Stop.{Stop}
use Rattle.psx_base.specs.declared.stop.Stop.TheVariants.{Exit}
use Rattle.psx_trace.specs.declared.item.Item.TheVariants.{S}
use Rattle.psx_trace.specs.Reading.{BeginsWith}
use Rattle.psx_trace.proofs.read.first_stop.Goals as goal

pub loop-stop-preserved : goal.loop-stop-preserved
loop-stop-preserved c = below_more _ _ c.loop-stop.invariant (c.begins_with.ensures.other c.if-begins_with.false)

pub returns-clause-none : goal.returns-clause-none
returns-clause-none c k d below begins =
    c.loop-stop.invariant k (omega arith) (subst (λ (s : Stop). BeginsWith c.args.text.now (S c.args.count s)) (get_or_default c.args.stops.now k d (Exit 0) below) begins)
