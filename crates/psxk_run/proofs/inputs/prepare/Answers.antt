use Rattle.std.proofs.Common.{Ok, ◌∙◌}
use Rattle.psxk_run.specs.Told.{told_run}
use Rattle.psxk_run.proofs.Loading.{schedule-from, sizes-from}
use Rattle.psxk_run.proofs.inputs.prepare.Goals as goal

pub returns-in-Ok-load_sizes-clause-given : goal.returns-in-Ok-load_sizes-clause-given
returns-in-Ok-load_sizes-clause-given g c =
    let h = g.H.Host in
    let run = told_run c.args.run in
    record {
      program = c.in-Ok.ensures.program;
      schedule = schedule-from (h.holds c.args.host.now) (h.holds c.load_exe.new.host) c.load_exe.ensures.on.held run.schedule (Ok c.in-Ok-load_schedule.schedule) c.in-Ok-load_schedule.ensures.schedule;
      sizes = sizes-from (h.holds c.args.host.now) (h.holds c.load_schedule.new.host) (λ n. c.load_schedule.ensures.on.held n ∙ c.load_exe.ensures.on.held n) run.config (Ok c.in-Ok-load_sizes.sizes) c.in-Ok-load_sizes.ensures.sizes;
    }
