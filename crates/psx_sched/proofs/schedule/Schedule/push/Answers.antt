use Rattle.std.proofs.Common.{sym, subst, ◌≤◌, ◌<◌, length, List}
use Rattle.std.specs.Prelude.{is_ok}
use Rattle.psx_sched.specs.declared.schedule.Entry.{Entry}
use Rattle.psx_sched.specs.Schedule.{last_count}
use Rattle.psx_sched.proofs.Ordered.{IsSchedule-perhaps}
use Rattle.psx_sched.proofs.schedule.Schedule.push.Goals as goal

pub invariant_of-self : goal.invariant_of-self
invariant_of-self c =
    IsSchedule-perhaps (is_ok c.push.result) c.self.inside.entries.items c.push.new.self.items c.args.entry c.push.ensures.items c.self.invariant
    (subst (λ (xs : List Entry). length xs < 65536) (sym c.self.view_is) c.requires.room)
    (subst (λ (xs : List Entry). last_count 0 xs ≤ c.args.entry.count) (sym c.self.view_is) c.requires.order)
    c.requires.plausible
