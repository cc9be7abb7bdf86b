use Rattle.std.proofs.Common.{◌∙◌, sym, arith}
use Rattle.psx_flow.proofs.Emits.{lowered_length}
use Rattle.psx_flow.proofs.Sizes.{counted, size_is, size_small}
use Rattle.psx_flow.proofs.sizing.size_of.Goals as goal

pub overflow_cast-result : goal.overflow_cast-result
overflow_cast-result c =
    omega (arith, counted c.args.nodes.now c.loop-node.node-index c.loop-node.sum c.loop-node-test.false c.loop-node.invariant.value, size_small c.args.nodes.now c.requires.well)

pub returns-clause-value : goal.returns-clause-value
returns-clause-value c = λ tree e. counted c.args.nodes.now c.loop-node.node-index c.loop-node.sum c.loop-node-test.false c.loop-node.invariant.value ∙ size_is tree c.args.nodes.now e

pub returns-clause-words : goal.returns-clause-words
returns-clause-words c =
    λ tree at e. counted c.args.nodes.now c.loop-node.node-index c.loop-node.sum c.loop-node-test.false c.loop-node.invariant.value ∙ (size_is tree c.args.nodes.now e ∙ sym (lowered_length tree at))
