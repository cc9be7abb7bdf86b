use Rattle.std.proofs.Common.{List, ap, sym, subst, ◌∙◌, arith}
use Rattle.psx_sched.specs.declared.schedule.Entry.{Entry}
use Rattle.psx_exe.specs.declared.exe.Exe.{Exe}
use Rattle.psx_gen.specs.Workload.{program}
use Rattle.psx_gen.proofs.Blanks.{blanks-bytes}
use Rattle.abs_run.specs.Accepted.{AreBytes}
use Rattle.psxk_run.specs.declared.inputs.Inputs.{Inputs}
use Rattle.psxk_run.specs.Inputs.{plain_sizes}
use Rattle.psxk_run.proofs.inputs.generate.Goals as goal

pub returns-clause-inputs : goal.returns-clause-inputs
returns-clause-inputs c =
    let exe = c.in_ok-exe.ensures.program in
    let schedule = c.in_ok-exe.ensures.schedule in
    ap (λ (e : Exe). let inputs : Inputs = record { exe = e; schedule = c.in_ok-exe.schedule; sizes = plain_sizes } in inputs) exe
    ∙ ap (λ (entries : List Entry). let inputs : Inputs = record { exe = program c.args.rounds; schedule = entries; sizes = plain_sizes } in inputs) schedule

pub returns-clause-runnable : goal.returns-clause-runnable
returns-clause-runnable c = record {
  accepted = c.accepted.ensures;
  bytes = subst AreBytes (sym c.in_ok-exe.ensures.schedule) (blanks-bytes c.args.rounds);
  threads = (omega arith, omega arith);
  events = (omega arith, omega arith);
}
