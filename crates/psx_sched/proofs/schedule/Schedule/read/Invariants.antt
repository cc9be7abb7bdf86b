use Rattle.std.proofs.Common.{◌≡◌, length}
use Rattle.psx_sched.specs.Schedule.{last_count}
use Rattle.psx_sched.specs.Accepted.{IsLinesThen}
use Rattle.psx_sched.proofs.schedule.Schedule.read.Given as goal

abbrev pub invariant-loop-rest : goal.invariant-loop-rest
invariant-loop-rest l = record {
  split : IsLinesThen l.text l.schedule l.rest;
  last : l.last ≡ last_count 0 l.schedule;
}

abbrev pub decreases-loop-rest : goal.decreases-loop-rest
decreases-loop-rest l = length l.rest
