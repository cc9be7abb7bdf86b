use Rattle.std.proofs.Common.{sym, subst}
use Rattle.psx_ports.specs.KeptCounter.{KeptCounter, Follows}
use Rattle.psx_ports.proofs.Following.{follows-open}
use Rattle.psx_ports.proofs.counter.Counter.turn_to.Goals as goal

pub returns-clause-follows : goal.returns-clause-follows
returns-clause-follows c = λ acts m f h.
    subst (λ (k : KeptCounter). Follows k acts c.args.count) (sym c.look_ahead.ensures.same)
    (follows-open c.settle-raised.new.self acts c.args.count c.look_ahead.new.self.next (c.settle-raised.ensures.follows acts m f h))
