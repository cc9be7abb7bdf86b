use Rattle.std.proofs.Common.{◌≡◌, take}
use Rattle.psx_asm.specs.Placing.{bytes_of_parts}
use Rattle.psxk_run.specs.Assembling.{lowest, highest, window_from, window_to}
use Rattle.psxk_run.proofs.assembling.span_of.Given as goal

abbrev pub invariant-loop-part : goal.invariant-loop-part
invariant-loop-part l = record {
  low : l.span.low ≡ lowest window_to (bytes_of_parts (take l.part-index l.parts));
  high : l.span.high ≡ highest window_from (bytes_of_parts (take l.part-index l.parts));
}
