use Rattle.psx_ports.proofs.Following.{ahead-open}
use Rattle.psx_ports.proofs.counter.Counter.look_ahead.Goals as goal

pub returns-clause-ahead : goal.returns-clause-ahead
returns-clause-ahead c = ahead-open c.args.self.now _ c.before_raise-self-inside.result c.self.view_is c.before_raise-self-inside.ensures.quiet
