use Rattle.std.proofs.Common.{◌≡◌, drop, false}
use Rattle.psx_lex.proofs.Texts.{text_end}
use Rattle.psx_lex.proofs.first.quoted.Given as goal

abbrev pub invariant-loop-i : goal.invariant-loop-i
invariant-loop-i l = text_end l.escaped l.i (drop l.i l.byte-items) ≡ text_end false 0 l.byte-items
