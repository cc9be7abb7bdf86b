use Rattle.kern_layout.proofs.Moved.{stack_more, stack_join}
use Rattle.kern_layout.proofs.laws.stacks.Goals as goal

pub returns : goal.returns
returns c = record {
  more = stack_more;
  joined = stack_join;
}
