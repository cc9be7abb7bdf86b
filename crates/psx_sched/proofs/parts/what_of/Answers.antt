use Rattle.std.proofs.Common.{◌∙◌, ap, sym, arith, rules}
use Rattle.psx_sched.specs.declared.schedule.What.TheVariants.{Line}
use Rattle.psx_sched.proofs.LineNumber.{ten, digit}
use Rattle.psx_sched.proofs.parts.what_of.Goals as goal

pub returns-then-second-eq48-clause-line : goal.returns-then-second-eq48-clause-line
returns-then-second-eq48-clause-line c n rest small low e =
    ap Line (sym (ten c.args.fields.now n rest small low e (sym c.byte_at-second.ensures ∙ c.if-second-eq48.true)))

pub returns-clause-line : goal.returns-clause-line
returns-clause-line c n rest small low e =
    let one = digit c.args.fields.now n rest small e (λ zero. c.if-second-eq48.false (c.byte_at-second.ensures ∙ zero)) in
    ap Line (c.digit_value-first.ensures.digit n (omega arith) (search (rules, one.1)))
