use Rattle.std.proofs.Common.{◌≡◌, ◌-◌, ◌≤◌, drop, length}
use Rattle.psx_asm.specs.Operands.{values}
use Rattle.psx_asm.specs.Shown.{shown, shown_values}
use Rattle.psx_asm.proofs.ValueLists.{joined}
use Rattle.psx_asm.proofs.directive.values.Given as goal

abbrev pub invariant-loop-at : goal.invariant-loop-at
invariant-loop-at l = record {
  within : l.at ≤ length l.pieces;
  so_far : joined (shown_values l.found.items) (values (shown (drop l.at l.pieces))) ≡ values (shown l.pieces);
}

abbrev pub decreases-loop-at : goal.decreases-loop-at
decreases-loop-at l = length l.initial.pieces - l.at
