use Rattle.std.proofs.Common.{◌≡◌, take}
use Rattle.psx_asm.specs.Piece.{pieces}
use Rattle.psx_asm.specs.Shown.{shown}
use Rattle.psx_asm.proofs.piece.pieces_of.Given as goal

abbrev pub invariant-loop-token : goal.invariant-loop-token
invariant-loop-token l = shown l.found.items ≡ pieces l.line (take l.token-index l.tokens)
