use Rattle.std.proofs.Common.{◌∙◌}
use Rattle.psx_base.specs.declared.host.Out.TheVariants.{Tty, Report}
use Rattle.psxk_run.specs.Ends.{ByWork, ByRefusal}
use Rattle.psxk_run.specs.Printing.{printing}
use Rattle.psxk_run.specs.Refusals.{line_of, status_of}
use Rattle.psxk_run.proofs.Ends.{makes_from, says_from}
use Rattle.psxk_run.proofs.Fronts.{text_from}
use Rattle.psxk_run.proofs.Loading.{program-later}
use Rattle.psxk_run.proofs.top.print_file.Goals as goal

pub returns-in-Ok-clause-ends : goal.returns-in-Ok-clause-ends
returns-in-Ok-clause-ends g c =
    let h = g.H.Host in
    let text = printing c.in-Ok.exe in
    ByWork (record {
      exe = c.in-Ok.exe;
      given = c.in-Ok.ensures.program;
      text = record {
        sends = makes_from (h.sent c.args.host.now) (h.sent c.load_exe.new.host) (h.sent c.send_printing.new.host) (h.send_faults c.args.host.now) (h.send_faults c.load_exe.new.host) (h.send_faults c.send_printing.new.host) Tty text c.send_printing.result c.load_exe.ensures.sent c.load_exe.ensures.on.sends c.send_printing.ensures.sends;
        front = text_from (h.sent c.args.host.now) (h.sent c.load_exe.new.host) (h.sent c.send_printing.new.host) Tty text c.load_exe.ensures.sent c.send_printing.ensures.front;
      };
    })

pub returns-in-Err-clause-ends : goal.returns-in-Err-clause-ends
returns-in-Err-clause-ends g c =
    let h = g.H.Host in
    let refusal = c.in-Err.refusal in
    ByRefusal (record {
      refusal = refusal;
      cause = program-later (h.holds c.args.host.now) (h.load_faults c.args.host.now) (h.load_faults c.load_exe.new.host) (h.load_faults c.refuse.new.host) c.args.name.now refusal c.refuse.ensures.on.loads c.in-Err.ensures.cause;
      says = says_from (h.sent c.args.host.now) (h.sent c.load_exe.new.host) (h.sent c.refuse.new.host) (h.send_faults c.args.host.now) (h.send_faults c.load_exe.new.host) (h.send_faults c.refuse.new.host) (line_of refusal) (status_of refusal) c.refuse.result c.load_exe.ensures.sent c.load_exe.ensures.on.sends c.refuse.ensures.says;
      front = rw (← c.load_exe.ensures.sent Report) c.refuse.ensures.front;
      only = λ out other. c.refuse.ensures.only out other ∙ c.load_exe.ensures.sent out;
    })
