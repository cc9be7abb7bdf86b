use Rattle.std.proofs.Common.{ap, arith}
use Rattle.psx_flow.specs.declared.node.Node.TheVariants.{Op}
use Rattle.psx_flow.specs.Lowered.{nop}
use Rattle.psx_flow.specs.Emit.{so_far, run}
use Rattle.psx_flow.proofs.BodySteps.{listing_fits}
use Rattle.psx_flow.proofs.Emits.{turn, rest_fits, loop_done}
use Rattle.psx_flow.proofs.lowering.lower.Goals as goal

pub loop-node-init : goal.loop-node-init
loop-node-init c = record {
  small = omega arith;
  fit = listing_fits c.args.nodes.now c.requires.well;
  nested = λ k d lt. absurd (grind (arith, c.new-brackets.ensures, lt));
  words = ap (λ b. run c.args.nodes.now (so_far c.args.words.now b 0)) c.new-brackets.ensures;
}

pub loop-node-preserved : goal.loop-node-preserved
loop-node-preserved c = record {
  small = omega (arith, c.emit-next.ensures.near, c.loop-node.invariant.small);
  fit = rest_fits c.args.nodes.now c.loop-node.node-index (Op nop) c.loop-node-test.true c.loop-node.invariant.fit;
  nested = c.emit-next.ensures.fit;
  words = turn c.args.nodes.now c.loop-node.node-index (Op nop) _ _ _ c.loop-node-test.true c.emit-next.ensures.value c.loop-node.invariant.words;
}

pub returns : goal.returns
returns c = λ tree e. loop_done tree c.args.nodes.now c.args.at c.args.words.now (so_far c.loop-node.words c.loop-node.brackets.items c.loop-node.next) c.loop-node.node-index c.loop-node-test.false c.requires.well e c.requires.room c.loop-node.invariant.words
