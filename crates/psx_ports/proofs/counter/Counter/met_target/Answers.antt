use Rattle.psx_ports.proofs.Looking.{target-none}
use Rattle.psx_ports.proofs.counter.Counter.met_target.Goals as goal

pub returns-else-self-ne0 : goal.returns-else-self-ne0
returns-else-self-ne0 c = target-none c.args.self.now _ c.self.view_is c.if-self-ne0.false c.args.count
