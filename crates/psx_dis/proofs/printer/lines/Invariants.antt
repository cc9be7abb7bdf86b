use Rattle.std.proofs.Common.{◌≡◌, take}
use Rattle.std.specs.String.{string_bytes}
use Rattle.psx_dis.specs.Printed.{printed}
use Rattle.psx_dis.proofs.printer.lines.Given as goal

abbrev pub invariant-loop-i : goal.invariant-loop-i
invariant-loop-i l = string_bytes l.text ≡ printed l.start (take l.i l.words)
