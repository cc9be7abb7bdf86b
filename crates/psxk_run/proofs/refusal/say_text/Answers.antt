use Rattle.std.proofs.Common.{◌∙◌, List, ℕ, subst}
use Rattle.psx_base.specs.declared.host.Out.TheVariants.{Report}
use Rattle.psxk_run.specs.Sent.{Says, GrewFront}
use Rattle.psxk_run.proofs.TextLines.{line-of_parts}
use Rattle.psxk_run.proofs.refusal.say_text.Goals as goal

pub returns-clause-says : goal.returns-clause-says
returns-clause-says g c =
    let h = g.H.Host in
    let is = line-of_parts c.args.error.now c.as_slice.result.now c.text_label.result.now (c.as_slice.ensures.value ∙ c.text_head.ensures) c.text_label.ensures in
    subst (λ (t : List ℕ). Says (h.sent c.args.host.now) (h.sent c.say_line.new.host) (h.send_faults c.args.host.now) (h.send_faults c.say_line.new.host) t 8 c.say_line.result) is c.say_line.ensures.says

pub returns-clause-front : goal.returns-clause-front
returns-clause-front g c =
    let h = g.H.Host in
    let is = line-of_parts c.args.error.now c.as_slice.result.now c.text_label.result.now (c.as_slice.ensures.value ∙ c.text_head.ensures) c.text_label.ensures in
    subst (λ (t : List ℕ). GrewFront (h.sent c.args.host.now Report) (h.sent c.say_line.new.host Report) t) is c.say_line.ensures.front
