use Rattle.std.proofs.Common.{◌≡◌, ◌*◌, ◌≤◌, take}
use Rattle.std.specs.Prelude.{sum_by}
use Rattle.psx_flow.specs.Nodes.{weight}
use Rattle.psx_flow.proofs.sizing.size_of.Given as goal

abbrev pub invariant-loop-node : goal.invariant-loop-node
invariant-loop-node l = record { value : l.sum ≡ sum_by weight (take l.node-index l.nodes); few : l.sum ≤ 4 * l.node-index }
