use Rattle.std.proofs.Common.{◌≡◌, ◌+◌, ◌%◌, ◌^◌, take}
use Rattle.psx_asm.specs.Placing.{addressed}
use Rattle.psxk_run.specs.Assembling.{lowest, highest}
use Rattle.psxk_run.proofs.assembling.widen.Given as goal

abbrev pub invariant-loop-place : goal.invariant-loop-place
invariant-loop-place l = record {
  at : l.at ≡ (l.part.at + l.place) % 2 ^ 32;
  low : l.wide.low ≡ lowest l.fn.span.low (addressed l.part.at (take l.place l.part.bytes));
  high : l.wide.high ≡ highest l.fn.span.high (addressed l.part.at (take l.place l.part.bytes));
}
