use Rattle.kern_mem.proofs.MoveLaws.{memmove_moves}
use Rattle.kern_mem.proofs.move_laws.memmove_moves.Goals as goal

pub returns : goal.returns
returns c = memmove_moves
