-- The bytes so far are those that were read, one more than the limit at most.
use Rattle.std.proofs.Common.{◌≤◌, ◌+◌, length}
use Rattle.std.specs.Io.KnownBytes.{Consumes}
use Rattle.psxk.proofs.file_host.read_from.Given as goal

abbrev pub invariant-loop : goal.invariant-loop
invariant-loop g l = (length l.bytes.items ≤ l.limit + 1) × Consumes (g.T.Read.remaining l.initial.reader) (g.T.Read.remaining l.reader) l.bytes.items
