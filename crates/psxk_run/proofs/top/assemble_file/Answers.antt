use Rattle.std.proofs.Common.{◌∙◌}
use Rattle.psx_asm.specs.Assembly.{placed_by}
use Rattle.psx_base.specs.declared.host.Out.TheVariants.{Ram, Report}
use Rattle.psxk_run.specs.Ends.{ByWork, ByRefusal}
use Rattle.psxk_run.specs.Assembling.{assembling}
use Rattle.psxk_run.specs.Refusals.{line_of, status_of}
use Rattle.psxk_run.proofs.Ends.{makes_from, says_from}
use Rattle.psxk_run.proofs.Fronts.{text_from}
use Rattle.psxk_run.proofs.Loading.{text-later}
use Rattle.psxk_run.proofs.top.assemble_file.Goals as goal

pub returns-in-Ok-clause-ends : goal.returns-in-Ok-clause-ends
returns-in-Ok-clause-ends g c =
    let h = g.H.Host in
    let placed = placed_by c.in-Ok.object in
    let text = assembling placed in
    ByWork (record {
      placed = placed;
      given = c.in-Ok.ensures.placed;
      text = record {
        sends = makes_from (h.sent c.args.host.now) (h.sent c.load_text.new.host) (h.sent c.send_assembling.new.host) (h.send_faults c.args.host.now) (h.send_faults c.load_text.new.host) (h.send_faults c.send_assembling.new.host) Ram text c.send_assembling.result c.load_text.ensures.sent c.load_text.ensures.on.sends c.send_assembling.ensures.sends;
        front = text_from (h.sent c.args.host.now) (h.sent c.load_text.new.host) (h.sent c.send_assembling.new.host) Ram text c.load_text.ensures.sent c.send_assembling.ensures.front;
      };
    })

pub returns-in-Err-clause-ends : goal.returns-in-Err-clause-ends
returns-in-Err-clause-ends g c =
    let h = g.H.Host in
    let refusal = c.in-Err.refusal in
    ByRefusal (record {
      refusal = refusal;
      cause = text-later (h.holds c.args.host.now) (h.load_faults c.args.host.now) (h.load_faults c.load_text.new.host) (h.load_faults c.refuse.new.host) c.args.name.now refusal c.refuse.ensures.on.loads c.in-Err.ensures.cause;
      says = says_from (h.sent c.args.host.now) (h.sent c.load_text.new.host) (h.sent c.refuse.new.host) (h.send_faults c.args.host.now) (h.send_faults c.load_text.new.host) (h.send_faults c.refuse.new.host) (line_of refusal) (status_of refusal) c.refuse.result c.load_text.ensures.sent c.load_text.ensures.on.sends c.refuse.ensures.says;
      front = rw (← c.load_text.ensures.sent Report) c.refuse.ensures.front;
      only = λ out other. c.refuse.ensures.only out other ∙ c.load_text.ensures.sent out;
    })
