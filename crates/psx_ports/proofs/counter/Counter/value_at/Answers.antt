use Rattle.std.proofs.Common.{◌^◌, arith}
use Rattle.psx_ports.proofs.Looking.{value-open}
use Rattle.psx_ports.proofs.counter.Counter.value_at.Goals as goal

pub returns-clause-value : goal.returns-clause-value
returns-clause-value c =
    value-open c.args.self.now _ c.self.view_is (2 ^ c.shift-shift.result) c.limit.result (omega arith) (omega arith) c.shift-shift.ensures.clock c.limit.ensures
    c.args.count c.run.result c.run.ensures.value
