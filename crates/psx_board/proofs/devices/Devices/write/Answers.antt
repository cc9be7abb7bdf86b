use Rattle.std.proofs.Common.{◌≡◌, ◌-◌, arith}
use Rattle.psx_board.proofs.Lagging.{ticked, carried}
use Rattle.psx_board.proofs.devices.Devices.write.Goals as goal

pub returns-clause-did : goal.returns-clause-did
returns-clause-did c h rest carries =
    let now = rw (← c.self.view_is) at carries in
    c.write-did.ensures.did h (ticked _ h rest c.tick.new.self now c.tick.ensures.stands)

pub returns-clause-carries : goal.returns-clause-carries
returns-clause-carries c h rest carries =
    let now = rw (← c.self.view_is) at carries in
    let count = c.self.inside.next - c.self.inside.left in
    let counted : c.planned-self-inside.result - (c.planned-self-inside.result - count) ≡ h.now = omega (arith, now.counted, c.planned-self-inside.ensures.least) in
    carried _ _ rest (c.write-did.ensures.stands h (ticked _ h rest c.tick.new.self now c.tick.ensures.stands)) counted now.waiting
