use Rattle.std.proofs.Common.{◌≡◌, All, take}
use Rattle.psx_sched.specs.Accepted.{IsByte}
use Rattle.psx_sched.specs.Line.{lines_of}
use Rattle.psx_sched.proofs.schedule.Schedule.write.Given as goal

abbrev pub invariant-loop-entry : goal.invariant-loop-entry
invariant-loop-entry l = record {
  lines : l.text.items ≡ lines_of (take l.entry-index l.self);
  bytes : All (λ e. IsByte e.what) (take l.entry-index l.self);
}
