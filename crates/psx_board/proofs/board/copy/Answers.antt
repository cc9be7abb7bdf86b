use Rattle.std.proofs.Common.{◌<◌, length, arith}
use Rattle.psx_board.proofs.Ranges.{user_mapped}
use Rattle.psx_board.proofs.board.copy.Goals as goal

pub load-requires-clause-mapped : goal.load-requires-clause-mapped
load-requires-clause-mapped c =
    let some : 0 < length c.args.bytes.now = grind arith in
    rw c.place.ensures.value (user_mapped c.args.at (length c.args.bytes.now) (omega arith) some c.requires)
