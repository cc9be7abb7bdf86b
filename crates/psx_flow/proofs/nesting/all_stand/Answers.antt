use Rattle.std.proofs.Common.{◌≤◌, ◌∙◌, length, reverse, ap, sym, arith}
use Rattle.std.proofs.lemmas.List.{length-reverse}
use Rattle.psx_flow.specs.declared.node.Node.TheVariants.{Op}
use Rattle.psx_flow.specs.Lowered.{nop}
use Rattle.psx_flow.proofs.BodySteps.{well_in, well_is, turn, step_short}
use Rattle.psx_flow.proofs.nesting.all_stand.Goals as goal

pub loop-node-init : goal.loop-node-init
loop-node-init c = record {
  short = omega (arith, ap length c.new-bodies.ensures);
  rest = ap (λ b. well_in (reverse b) c.args.nodes.now) c.new-bodies.ensures ∙ sym (well_is c.args.nodes.now);
}

pub loop-node-preserved : goal.loop-node-preserved
loop-node-preserved c =
    let before = length-reverse c.loop-node.bodies.items in
    let short : length (reverse c.loop-node.bodies.items) ≤ 16 = omega (arith, before, c.loop-node.invariant.short) in
    let after = c.step.ensures.good c.if-not-step.false in
    record {
      short = omega (arith, step_short _ (reverse c.loop-node.bodies.items) (reverse c.step.new.bodies.items) short after, length-reverse c.step.new.bodies.items);
      rest = turn c.args.nodes.now c.loop-node.node-index (Op nop) (reverse c.loop-node.bodies.items) (reverse c.step.new.bodies.items) _ c.loop-node-test.true short (sym c.may_stand.ensures ∙ c.if-not-may_stand.false) after c.loop-node.invariant.rest;
    }
