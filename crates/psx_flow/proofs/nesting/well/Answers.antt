use Rattle.psx_flow.proofs.BodySteps.{well_both}
use Rattle.psx_flow.proofs.nesting.well.Goals as goal

pub returns-clause-tree : goal.returns-clause-tree
returns-clause-tree c = well_both c.args.nodes.now c.all_stand.result c.all_stand.ensures
