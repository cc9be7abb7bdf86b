use Rattle.std.proofs.Common.{◌≡◌, ◌++◌, take}
use Rattle.psx_calls.specs.Lines.{listed_more}
use Rattle.psx_calls.proofs.lines.put_more.Given as goal

abbrev pub invariant-loop-word : goal.invariant-loop-word
invariant-loop-word l = l.out.items ≡ l.initial.out.items ++ listed_more l.numbers (take l.word-index l.words)
