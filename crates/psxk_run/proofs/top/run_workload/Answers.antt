use Rattle.std.proofs.Common.{subst}
use Rattle.psxk_run.specs.declared.inputs.Inputs.{Inputs}
use Rattle.psxk_run.specs.declared.refusal.Refusal.TheVariants.{Memory}
use Rattle.psxk_run.specs.Ends.{ByWork, ByRefusal, EndsRun, moment}
use Rattle.psxk_run.specs.Inputs.{workload_budget}
use Rattle.psxk_run.proofs.top.run_workload.Goals as goal

pub returns-in-Ok-clause-ends : goal.returns-in-Ok-clause-ends
returns-in-Ok-clause-ends g c =
    let h = g.H.Host in
    let of = λ (inputs : Inputs). EndsRun (moment h.holds h.sent h.load_faults h.send_faults c.args.host.now) (moment h.holds h.sent h.load_faults h.send_faults c.run_inputs.new.host) inputs workload_budget c.run_inputs.result in
    ByWork (subst of c.in-Ok.ensures.inputs c.run_inputs.ensures.ends)

pub returns-in-Err-clause-ends : goal.returns-in-Err-clause-ends
returns-in-Err-clause-ends g c = ByRefusal (record { refusal = Memory; cause = tt; says = c.refuse.ensures.says; front = c.refuse.ensures.front; only = c.refuse.ensures.only })
