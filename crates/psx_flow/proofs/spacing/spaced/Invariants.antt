use Rattle.std.proofs.Common.{◌≡◌, length}
use Rattle.psx_flow.specs.Spaced.{is_spaced}
use Rattle.psx_flow.proofs.spacing.spaced.Given as goal

abbrev pub invariant-loop-node : goal.invariant-loop-node
invariant-loop-node l = is_spaced l.rest ≡ is_spaced l.nodes

abbrev pub decreases-loop-node : goal.decreases-loop-node
decreases-loop-node l = length l.rest
