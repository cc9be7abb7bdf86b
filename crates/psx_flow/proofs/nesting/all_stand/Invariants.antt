use Rattle.std.proofs.Common.{◌≡◌, ◌≤◌, drop, length, reverse}
use Rattle.psx_flow.specs.Well.{is_well}
use Rattle.psx_flow.proofs.BodySteps.{well_in}
use Rattle.psx_flow.proofs.nesting.all_stand.Given as goal

abbrev pub invariant-loop-node : goal.invariant-loop-node
invariant-loop-node l = record {
  short : length l.bodies.items ≤ 16;
  rest : well_in (reverse l.bodies.items) (drop l.node-index l.nodes) ≡ is_well l.nodes;
}
