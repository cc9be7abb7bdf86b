use Rattle.psx_ports.proofs.Looking.{met-some, met-none}
use Rattle.psx_ports.proofs.counter.Counter.met.Goals as goal

pub returns-in-Some : goal.returns-in-Some
returns-in-Some c = met-some c.args.self.now.number c.args.self.now.setting c.args.x c.in-Some.first c.args.count c.in-Some.ensures.some

pub returns-in-None : goal.returns-in-None
returns-in-None c = met-none c.args.self.now.number c.args.self.now.setting c.args.x c.args.count c.ranges.count.fits c.in-None.ensures.none
