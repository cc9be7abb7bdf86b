use Rattle.std.proofs.Common.{◌≡◌, ◌≤◌, ◌+◌, ◌++◌, All, length, vec_len}
use Rattle.psx_trace.specs.Reading.{IsItem, lines_of}
use Rattle.psx_trace.proofs.read.Trace.read.Given as goal

abbrev pub invariant-loop-rest : goal.invariant-loop-rest
invariant-loop-rest l = record {
  fit : All IsItem l.items.items;
  is : l.text ≡ lines_of l.items.items ++ l.rest;
  room : vec_len l.items + length l.rest ≤ length l.text;
}

abbrev pub decreases-loop-rest : goal.decreases-loop-rest
decreases-loop-rest l = length l.rest
