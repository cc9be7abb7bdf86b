use Rattle.std.proofs.Common.{◌-◌, length}
use Rattle.psx_lex.specs.Line.{HasTokens}
use Rattle.psx_lex.proofs.line.tokens.Given as goal

abbrev pub invariant-loop-at : goal.invariant-loop-at
invariant-loop-at l = HasTokens l.line 0 l.tokens.items l.at

abbrev pub decreases-loop-at : goal.decreases-loop-at
decreases-loop-at l = length l.line - l.at
