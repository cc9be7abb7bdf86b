use Rattle.std.proofs.Common.{sym, ap, ◌∙◌, arith}
use Rattle.std.proofs.lemmas.List.{drop_more, drop_all}
use Rattle.psx_sched.specs.declared.schedule.What.TheVariants.{Byte}
use Rattle.psx_sched.specs.declared.schedule.Entry.{Entry}
use Rattle.psx_board.specs.Delivery.{due, later}
use Rattle.psx_board.proofs.Delivering.{left-more, left-done, due-none, later-cons}
use Rattle.psx_board.proofs.devices.deliver.Goals as goal

abbrev nothing : Entry
nothing = record { count = 0; what = Byte 0 }

pub returns-then-entry-count-clause-arrived : goal.returns-then-entry-count-clause-arrived
returns-then-entry-count-clause-arrived c h s =
    let split = drop_more c.args.entries.now c.loop-entry.entry-index nothing c.loop-entry-test.true in
    left-done c.args.entries.now c.args.count c.loop-entry.entry-index c.loop-entry.ports h (ap (due c.args.count) split ∙ due-none _ _ c.args.count c.if-entry-count.true) (c.loop-entry.invariant.left h s)

pub loop-entry-preserved : goal.loop-entry-preserved
loop-entry-preserved c =
    let split = drop_more c.args.entries.now c.loop-entry.entry-index nothing c.loop-entry-test.true in
    record {
      number = omega (arith, c.loop-entry.invariant.number);
      later = sym (ap (later c.args.count) split ∙ later-cons _ _ c.args.count c.if-entry-count.false) ∙ c.loop-entry.invariant.later;
      room = omega (arith, c.loop-entry.invariant.room, c.pass.ensures.room);
      count = c.pass.ensures.count ∙ c.loop-entry.invariant.count;
      left = λ h s. left-more c.args.entries.now c.args.count c.loop-entry.entry-index _ _ _ h split c.if-entry-count.false c.pass.ensures.arrived (c.loop-entry.invariant.left h s);
    }

pub returns-clause-arrived : goal.returns-clause-arrived
returns-clause-arrived c h s =
    left-done c.args.entries.now c.args.count c.loop-entry.entry-index c.loop-entry.ports h (ap (due c.args.count) (drop_all c.loop-entry.entry-index c.args.entries.now (omega arith))) (c.loop-entry.invariant.left h s)
