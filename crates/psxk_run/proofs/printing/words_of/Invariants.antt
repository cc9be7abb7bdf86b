use Rattle.std.proofs.Common.{◌≡◌, map}
use Rattle.std.specs.List.{range_with_len}
use Rattle.psxk_run.specs.Printing.{word_at}
use Rattle.psxk_run.proofs.printing.words_of.Given as goal

abbrev pub invariant-loop-number : goal.invariant-loop-number
invariant-loop-number l = l.words.items ≡ map (word_at l.exe) (range_with_len 0 l.number)
