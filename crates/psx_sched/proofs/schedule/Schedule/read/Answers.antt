use Rattle.std.proofs.Common.{◌+◌, All, Ok, Err, length, inr, sym, subst, ap, ◌∙◌, arith, rules}
use Rattle.std.proofs.lemmas.Grind.{common_steps}
use Rattle.std.proofs.lemmas.List.Elements.{All-push}
use Rattle.psx_sched.specs.declared.schedule.Entry.{Entry}
use Rattle.psx_sched.specs.declared.fault.SchedError.TheVariants.{BadLine, OutOfOrder, TooMany}
use Rattle.psx_sched.specs.Schedule.{last_count}
use Rattle.psx_sched.specs.Accepted.{IsByte, IsScheduleOf}
use Rattle.psx_sched.proofs.Ordered.{last_count-push}
use Rattle.psx_sched.proofs.OneAnswer.{one_answer}
use Rattle.psx_sched.proofs.schedule.Schedule.read.Goals as goal

pub loop-rest-preserved : goal.loop-rest-preserved
loop-rest-preserved c =
    let grown = c.in-Ok.ensures.ok in
    record {
      split = record {
        schedule = search rules;
        bytes = subst (All (λ (e : Entry). IsByte e.what)) (sym grown)
            (All-push (λ (e : Entry). IsByte e.what) c.loop-rest.schedule c.in-Some.entry c.loop-rest.invariant.split.bytes c.in-Some.ensures.found.0.byte);
        is = grind (arith, common_steps);
      };
      last = sym (ap (last_count 0) grown ∙ last_count-push 0 c.loop-rest.schedule c.in-Some.entry);
    }

pub returns-then-count-eq-MOST-clause-only : goal.returns-then-count-eq-MOST-clause-only
returns-then-count-eq-MOST-clause-only c answer is =
    let here : IsScheduleOf c.args.text.now (Err TooMany) = search rules in
    inr (one_answer c.args.text.now (Err TooMany) answer here is)

pub returns-in_default-clause-only : goal.returns-in_default-clause-only
returns-in_default-clause-only c answer is =
    let fault = BadLine (length c.entries-count.result.now + 1) in
    let here : IsScheduleOf c.args.text.now (Err fault) = search rules in
    inr (one_answer c.args.text.now (Err fault) answer here is)

pub returns-then-entry-last-clause-only : goal.returns-then-entry-last-clause-only
returns-then-entry-last-clause-only c answer is =
    let fault = OutOfOrder (length c.entries-count.result.now + 1) in
    let here : IsScheduleOf c.args.text.now (Err fault) = search rules in
    inr (one_answer c.args.text.now (Err fault) answer here is)

pub returns-clause-only : goal.returns-clause-only
returns-clause-only c answer is =
    let here : IsScheduleOf c.args.text.now (Ok c.loop-rest.schedule) = grind (arith, common_steps) in
    inr (one_answer c.args.text.now (Ok c.loop-rest.schedule) answer here is)
