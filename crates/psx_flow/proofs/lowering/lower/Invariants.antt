use Rattle.std.proofs.Common.{◌≡◌, ◌*◌, ◌≤◌, IsTrue, [], drop}
use Rattle.std.specs.List.{All, list_all}
use Rattle.psx_flow.specs.Nodes.{node_fits}
use Rattle.psx_flow.specs.Emit.{BracketFits, so_far, run}
use Rattle.psx_flow.proofs.lowering.lower.Given as goal

abbrev pub invariant-loop-node : goal.invariant-loop-node
invariant-loop-node l = record {
  small : l.next ≤ 2 * l.node-index;
  fit : IsTrue (list_all node_fits (drop l.node-index l.nodes));
  nested : All BracketFits l.brackets.items;
  words : run (drop l.node-index l.nodes) (so_far l.words l.brackets.items l.next) ≡ run l.nodes (so_far l.fn.words [] 0);
}
