use Rattle.std.proofs.Common.{◌≡◌, ◌≤◌, ◌+◌, ◌*◌}
use Rattle.psx_sched.specs.Schedule.{last_count}
use Rattle.psx_gen.specs.Workload.{blanks}
use Rattle.psx_gen.proofs.generate.schedule.Given as goal

abbrev pub invariant-loop-place : goal.invariant-loop-place
invariant-loop-place l = record {
  so_far : l.schedule ≡ blanks l.place;
  last : last_count 0 l.schedule ≤ 500000 + 10000 * l.place;
}
