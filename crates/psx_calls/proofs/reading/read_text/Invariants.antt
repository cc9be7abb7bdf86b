-- The bytes so far are those that were read, one more than the limit at most.
use Rattle.std.proofs.Common.{◌≤◌, ◌+◌, length}
use Rattle.std.specs.Io.KnownBytes.{Consumes}
use Rattle.psx_calls.proofs.reading.read_text.Given as goal

abbrev pub invariant-loop : goal.invariant-loop
invariant-loop g l = (length l.text.items ≤ l.limit + 1) × Consumes (g.T.Read.remaining l.initial.reader) (g.T.Read.remaining l.reader) l.text.items
