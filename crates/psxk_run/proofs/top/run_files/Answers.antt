use Rattle.psxk_run.specs.Ends.{ByWork, ByRefusal}
use Rattle.psxk_run.specs.Refusals.{line_of, status_of}
use Rattle.psxk_run.specs.Reports.{memory_line}
use Rattle.psxk_run.specs.Told.{told_run}
use Rattle.psxk_run.specs.Top.{run_of}
use Rattle.psx_base.specs.declared.host.Out.TheVariants.{Report}
use Rattle.std.proofs.Common.{◌∙◌}
use Rattle.psxk_run.proofs.Ends.{runs_from, says_from}
use Rattle.psxk_run.proofs.Fronts.{part_from}
use Rattle.psxk_run.proofs.Loading.{cause-later}
use Rattle.psxk_run.proofs.top.run_files.Goals as goal

pub returns-in-Ok-clause-ends : goal.returns-in-Ok-clause-ends
returns-in-Ok-clause-ends g c =
    let h = g.H.Host in
    let o = run_of c.in-Ok.inputs c.args.run.budget in
    let r = c.run_inputs.ensures.ends in
    ByWork (record {
      inputs = c.in-Ok.inputs;
      given = c.in-Ok.ensures.given;
      run = record {
        ran = runs_from (h.sent c.args.host.now) (h.sent c.prepare.new.host) (h.sent c.run_inputs.new.host) (h.send_faults c.args.host.now) (h.send_faults c.prepare.new.host) (h.send_faults c.run_inputs.new.host) o c.run_inputs.result c.prepare.ensures.sent c.prepare.ensures.on.sends r.ran;
        fronts = part_from (h.sent c.args.host.now) (h.sent c.prepare.new.host) (h.sent c.run_inputs.new.host) o memory_line c.prepare.ensures.sent r.fronts;
        kernel = r.kernel;
        in_time = r.in_time;
      };
    })

pub returns-in-Err-clause-ends : goal.returns-in-Err-clause-ends
returns-in-Err-clause-ends g c =
    let h = g.H.Host in
    let refusal = c.in-Err.refusal in
    ByRefusal (record {
      refusal = refusal;
      cause = cause-later (h.holds c.args.host.now) (h.load_faults c.args.host.now) (h.load_faults c.prepare.new.host) (h.load_faults c.refuse.new.host) (told_run c.args.run) refusal c.refuse.ensures.on.loads c.in-Err.ensures.cause;
      says = says_from (h.sent c.args.host.now) (h.sent c.prepare.new.host) (h.sent c.refuse.new.host) (h.send_faults c.args.host.now) (h.send_faults c.prepare.new.host) (h.send_faults c.refuse.new.host) (line_of refusal) (status_of refusal) c.refuse.result c.prepare.ensures.sent c.prepare.ensures.on.sends c.refuse.ensures.says;
      front = rw (← c.prepare.ensures.sent Report) c.refuse.ensures.front;
      only = λ out other. c.refuse.ensures.only out other ∙ c.prepare.ensures.sent out;
    })
