use Rattle.psx_flow.proofs.Stacks.{popped}
use Rattle.psx_flow.proofs.emit.close.Goals as goal

pub returns-clause-some : goal.returns-clause-some
returns-clause-some c = popped c.pop.result c.args.brackets.now.items c.pop.new.self.items c.requires c.pop.ensures.items
