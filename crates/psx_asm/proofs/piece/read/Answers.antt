use Rattle.std.proofs.Common.{ap, ◌∙◌, Some}
use Rattle.psx_asm.specs.Piece.{pieces}
use Rattle.psx_asm.proofs.Readings.{read_tokens, read_none}
use Rattle.psx_asm.proofs.piece.read.Goals as goal

pub returns-in_ok-pieces_of-in-Ok : goal.returns-in_ok-pieces_of-in-Ok
returns-in_ok-pieces_of-in-Ok c = λ reading h.
    ap Some (c.in_ok-pieces_of-in-Ok.ensures ∙ ap (pieces c.args.line.now) c.as_slice.ensures.value) ∙ read_tokens c.args.line.now c.in-Ok.found.items c.in-Ok.ensures.only reading h

pub returns-in-Err-BadToken : goal.returns-in-Err-BadToken
returns-in-Err-BadToken c = read_none c.args.line.now _ _ c.in-Err-BadToken.field-0-is c.in-Err-BadToken.ensures.only
