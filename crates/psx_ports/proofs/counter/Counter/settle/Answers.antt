use Rattle.std.proofs.Common.{arith}
use Rattle.psx_ports.proofs.Following.{settled-open, raised-open}
use Rattle.psx_ports.proofs.counter.Counter.settle.Goals as goal

pub returns-clause-raised : goal.returns-clause-raised
returns-clause-raised c = λ acts m f h.
    raised-open c.args.self.now acts m c.args.count c.met_target-target.result c.met-top.result c.asks-asks.result c.is_armed.result f h
    c.met_target-target.ensures c.met-top.ensures c.asks-asks.ensures c.is_armed.ensures

pub returns-clause-follows : goal.returns-clause-follows
returns-clause-follows c = λ acts m f h.
    settled-open c.args.self.now _ c.self.view_is (omega arith) (omega arith) acts m c.args.count c.value_at-self-inside.result c.met_target-target.result c.met-top.result c.asks-asks.result f h
    c.value_at-self-inside.ensures.value c.met_target-target.ensures c.met-top.ensures c.asks-asks.ensures
