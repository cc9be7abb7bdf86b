use Rattle.std.proofs.Common.{◌∙◌}
use Rattle.psx_board.proofs.Lagging.{line-carried}
use Rattle.psx_board.proofs.devices.Devices.line.Goals as goal

pub returns : goal.returns
returns c h rest carries =
    let now = rw (← c.self.view_is) at carries in
    c.line.ensures.line _ now.ports ∙ line-carried _ h rest now
