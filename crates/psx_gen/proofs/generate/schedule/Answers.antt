use Rattle.std.proofs.Common.{◌∷◌, [], ◌++◌, List, length, ap, sym, ◌∙◌, arith}
use Rattle.psx_sched.specs.declared.schedule.Entry.{Entry}
use Rattle.psx_sched.specs.Schedule.{last_count}
use Rattle.psx_sched.proofs.Ordered.{last_count-push}
use Rattle.psx_gen.specs.Workload.{blank}
use Rattle.psx_gen.proofs.Blanks.{blanks-more, length-blanks}
use Rattle.psx_gen.proofs.generate.schedule.Goals as goal

pub push-requires-clause-room : goal.push-requires-clause-room
push-requires-clause-room c =
    let len = ap length c.loop-place.invariant.so_far ∙ length-blanks c.loop-place.place in
    omega (arith, len, c.loop-place-test.true, c.requires)

pub loop-place-preserved : goal.loop-place-preserved
loop-place-preserved c =
    let place = c.loop-place.place in
    let last = ap (last_count 0) c.in_ok-push.ensures.ok ∙ last_count-push 0 c.loop-place.schedule (blank place) in
    record {
      so_far = c.in_ok-push.ensures.ok ∙ ap (λ (xs : List Entry). xs ++ blank place ∷ []) c.loop-place.invariant.so_far ∙ sym (blanks-more place);
      last = omega (arith, last);
    }
