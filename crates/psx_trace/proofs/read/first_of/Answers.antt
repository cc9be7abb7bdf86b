use Rattle.std.proofs.Common.{subst, below_more, arith}
use Rattle.std.proofs.lemmas.List.{get_or_default}
use Rattle.psx_trace.specs.declared.item.Item.TheVariants.{B}
use Rattle.psx_trace.specs.Reading.{BeginsWith}
use Rattle.psx_trace.proofs.read.first_of.Goals as goal

pub loop-item-preserved : goal.loop-item-preserved
loop-item-preserved c = below_more _ _ c.loop-item.invariant (c.begins_with.ensures.other c.if-begins_with.false)

pub returns-clause-none : goal.returns-clause-none
returns-clause-none c k d below begins =
    c.loop-item.invariant k (omega arith) (subst (BeginsWith c.args.text.now) (get_or_default c.args.items.now k d (B 0) below) begins)
