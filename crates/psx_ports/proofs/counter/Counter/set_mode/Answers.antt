use Rattle.std.proofs.Common.{◌%◌, ◌^◌, ◌∷◌, false, sym, ap, subst, ◌∙◌, arith}
use Rattle.psx_ports.specs.Counter.{SetMode}
use Rattle.psx_ports.specs.KeptCounter.{KeptCounter, Follows}
use Rattle.psx_ports.proofs.Following.{follows-mode}
use Rattle.psx_ports.proofs.counter.Counter.set_mode.Goals as goal

pub returns-clause-follows : goal.returns-clause-follows
returns-clause-follows c = λ acts f.
    let next = c.look_ahead.new.self.next in
    let changed : KeptCounter → KeptCounter = λ k. record k { setting = record k.setting { mode = c.args.mode % 2 ^ 10; value = 0 }; target = false; top = false; asked = false; next = next } in
    subst (λ (k : KeptCounter). Follows k (SetMode c.args.count c.args.mode ∷ acts) c.args.count) (sym (c.look_ahead.ensures.same ∙ ap changed c.self.view_is))
    (follows-mode c.settle.new.self acts c.args.count next (c.settle.ensures.follows acts c.args.count f (omega arith)) c.settle.ensures.since c.args.mode)
