use Rattle.psxk_run.proofs.KernelRuns.{kernel_run, in_time}
use Rattle.psxk_run.proofs.top.run_inputs.Goals as goal

pub returns-clause-ends : goal.returns-clause-ends
returns-clause-ends g c = record {
  ran = c.run_program.ensures.ran;
  fronts = c.run_program.ensures.fronts;
  kernel = kernel_run c.serving.ensures.runs c.args.inputs c.requires.runnable c.args.budget;
  in_time = in_time c.serving.ensures.in_time c.args.inputs c.requires.runnable c.args.budget;
}
