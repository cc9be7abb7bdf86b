use Rattle.std.proofs.Common.{◌%◌, ◌^◌, ◌≤◌, ◌∷◌, sym, ap, subst, ◌∙◌, arith}
use Rattle.psx_ports.specs.Counter.{SetTarget}
use Rattle.psx_ports.specs.KeptCounter.{KeptCounter, Follows}
use Rattle.psx_ports.proofs.Following.{follows-target}
use Rattle.psx_ports.proofs.counter.Counter.set_target.Goals as goal

pub returns-clause-follows : goal.returns-clause-follows
returns-clause-follows c = λ acts f.
    let next = c.look_ahead.new.self.next in
    let changed : KeptCounter → KeptCounter = λ k. record k { setting = record k.setting { target = c.args.target % 2 ^ 16 }; next = next } in
    subst (λ (k : KeptCounter). Follows k (SetTarget c.args.count c.args.target ∷ acts) c.args.count) (sym (c.look_ahead.ensures.same ∙ ap changed c.self.view_is))
    (follows-target c.settle.new.self acts c.args.count next (c.settle.ensures.follows acts c.args.count f (omega arith)) c.settle.ensures.since (subst (λ (k : KeptCounter). k.setting.value ≤ 0xFFFF) c.self.view_is (omega arith)) (subst (λ (k : KeptCounter). k.setting.target ≤ 0xFFFF) c.self.view_is (omega arith)) c.args.target)
