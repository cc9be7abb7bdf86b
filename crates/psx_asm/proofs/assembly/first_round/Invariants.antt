use Rattle.std.proofs.Common.{◌≤◌, ◌-◌, ◌+◌, length, map}
use Rattle.psx_asm.specs.Walking.{shown_item}
use Rattle.psx_asm.specs.Assembly.{lines_of, AreReadAs}
use Rattle.psx_asm.proofs.Behind.{Readings, Behind}
use Rattle.psx_asm.proofs.assembly.first_round.Given as goal

abbrev pub invariant-loop-from : goal.invariant-loop-from
invariant-loop-from l = record {
  few : l.walk.number ≤ l.from;
  so_far : (readings : Readings) → AreReadAs (lines_of l.text) readings → Behind l.text readings l.from l.walk (map shown_item l.items.items);
}

abbrev pub decreases-loop-from : goal.decreases-loop-from
decreases-loop-from l = length l.initial.text + 1 - l.from
