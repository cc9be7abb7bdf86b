use Rattle.std.proofs.Common.{◌≡◌, ◌++◌, take}
use Rattle.psx_calls.specs.Lines.{due_lines}
use Rattle.psx_calls.proofs.lines.put_due_lines.Given as goal

abbrev pub invariant-loop-line : goal.invariant-loop-line
invariant-loop-line l = l.out.items ≡ l.initial.out.items ++ due_lines l.due (take l.line-index l.lines)
