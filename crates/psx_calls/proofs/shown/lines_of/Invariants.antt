-- What was written and the lines of the items that are left are all lines.
use Rattle.std.proofs.Common.{◌≡◌, ◌+◌, ◌++◌, length}
use Rattle.psx_calls.specs.declared.places.TheConstants.{START}
use Rattle.psx_calls.specs.Lines.{lines_from}
use Rattle.psx_calls.specs.Places.{first_misplaced}
use Rattle.psx_calls.proofs.shown.lines_of.Given as goal

abbrev pub invariant-loop-item : goal.invariant-loop-item
invariant-loop-item l = record {
  lines : l.out.items ++ lines_from l.numbers l.place l.left ≡ lines_from l.numbers START l.items;
  misplaced : first_misplaced l.line l.place l.left ≡ first_misplaced 1 START l.items;
  room : l.line + length l.left ≡ length l.items + 1;
}

abbrev pub decreases-loop-item : goal.decreases-loop-item
decreases-loop-item l = length l.left
