use Rattle.std.proofs.Common.{◌<◌, length, sym, arith}
use Rattle.psx_asm.proofs.Addresses.{outside_found, outside_on}
use Rattle.psx_asm.proofs.place.first_outside.Goals as goal

pub returns-then-not-is_inside : goal.returns-then-not-is_inside
returns-then-not-is_inside c = λ bytes len.
    let below : c.loop.counter < length bytes = omega arith in
    outside_found _ _ c.args.at _ _ bytes below (sym c.if-not-is_inside.ensures) (c.loop.invariant bytes len)

pub loop-preserved : goal.loop-preserved
loop-preserved c = λ bytes len.
    let below : c.loop.counter < length bytes = omega arith in
    outside_on _ _ c.args.at _ _ _ bytes below (sym c.if-not-is_inside.ensures) c.next-address.ensures (c.loop.invariant bytes len)
