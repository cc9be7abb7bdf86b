use Rattle.std.proofs.Common.{◌<◌, ◌^◌, length, arith}
use Rattle.psxk_run.proofs.PlacedBytes.{put-more}
use Rattle.psxk_run.proofs.assembling.put_part.Goals as goal

pub loop-place-preserved : goal.loop-place-preserved
loop-place-preserved c =
    let part = c.args.part.now in
    let small : part.at < 2 ^ 32 = omega arith in
    let inside : c.loop-place.place < length part.bytes = rw (← c.as_slice-bytes.ensures) c.loop-place-test.true in
    let more = put-more c.args.dest c.args.text.now part.at c.loop-place.at part.bytes c.loop-place.place small inside c.loop-place.invariant.at in
    record { at = omega (arith, c.loop-place.invariant.at); text = rw (more, ← c.loop-place.invariant.text) (cc (c.put_byte.ensures, c.saturating_sub.ensures, c.as_slice-bytes.ensures)) }
