use Rattle.psx_flow.proofs.TreeRead.{tree_read, read_tree, one_tree}
use Rattle.psx_flow.proofs.reading.reading_law.Goals as goal

pub returns : goal.returns
returns c = record { read = tree_read; spelled = read_tree; one = one_tree }
