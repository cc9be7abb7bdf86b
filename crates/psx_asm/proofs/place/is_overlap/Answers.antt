use Rattle.std.proofs.Common.{◌<◌, length, sym, ◌∙◌, arith}
use Rattle.psx_asm.proofs.Addresses.{overlap_found, overlap_on}
use Rattle.psx_asm.proofs.place.is_overlap.Goals as goal

pub returns-then-contains : goal.returns-then-contains
returns-then-contains c = λ placed bytes taken len.
    let below : c.loop.counter < length bytes = omega arith in
    overlap_found placed c.args.at _ _ bytes below (sym (taken c.loop.address) ∙ sym c.if-contains.ensures) (c.loop.invariant placed bytes taken len)

pub loop-preserved : goal.loop-preserved
loop-preserved c = λ placed bytes taken len.
    let below : c.loop.counter < length bytes = omega arith in
    overlap_on placed c.args.at _ _ _ bytes below (sym (taken c.loop.address) ∙ sym c.if-contains.ensures) c.next-address.ensures (c.loop.invariant placed bytes taken len)
