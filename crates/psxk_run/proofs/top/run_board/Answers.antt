use Rattle.psx_board.specs.Run.{run}
use Rattle.psxk_run.proofs.Ends.{runs_done}
use Rattle.psxk_run.proofs.Fronts.{fronts_done, fronts_failed}
use Rattle.psxk_run.proofs.top.run_board.Goals as goal

pub returns-in-Done-clause-ran : goal.returns-in-Done-clause-ran
returns-in-Done-clause-ran g c = λ m stands unbegun.
    let h = g.H.Host in
    runs_done (h.sent c.args.host.now) (h.sent c.run_on.new.host) (h.sent c.say_stop.new.host) (h.send_faults c.args.host.now) (h.send_faults c.run_on.new.host) (h.send_faults c.say_stop.new.host) (run c.args.budget m) c.in-Done.stop c.say_stop.result (c.in-Done.ensures.stop m stands unbegun) (c.in-Done.ensures.sent m stands unbegun) c.say_stop.ensures.only c.run_on.ensures.on.sends c.say_stop.ensures.says

pub returns-in-Done-clause-fronts : goal.returns-in-Done-clause-fronts
returns-in-Done-clause-fronts g c = λ m stands unbegun.
    let h = g.H.Host in
    fronts_done (h.sent c.args.host.now) (h.sent c.run_on.new.host) (h.sent c.say_stop.new.host) (run c.args.budget m) c.in-Done.stop (c.in-Done.ensures.stop m stands unbegun) (c.in-Done.ensures.sent m stands unbegun) c.say_stop.ensures.only c.say_stop.ensures.front

pub returns-in-Failed-clause-fronts : goal.returns-in-Failed-clause-fronts
returns-in-Failed-clause-fronts g c = λ m stands unbegun.
    let h = g.H.Host in
    fronts_failed (h.sent c.args.host.now) (h.sent c.run_on.new.host) (run c.args.budget m) (c.in-Failed.ensures.fronts m stands unbegun)
